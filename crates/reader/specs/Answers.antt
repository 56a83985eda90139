-- Number and evidence of each answer of the reader, by docs/RULES.md, section 6.
use Rattle.std.specs.Prelude.{List, [], ◌∷◌, ℕ, Ok, Err}
use Rattle.numbers.specs.Answers.{refusal_number, refusal_evidence}
use Rattle.heads.specs.Tables.{Outcome}

-- Rule R6.15: a file that is read has number 0, and the place of its first slot.
abbrev pub number_of : Outcome → ℕ
number_of (Ok p) = 0
number_of (Err r) = refusal_number r

abbrev pub evidence_of : Outcome → List ℕ
evidence_of (Ok p) = p ∷ []
evidence_of (Err r) = refusal_evidence r
