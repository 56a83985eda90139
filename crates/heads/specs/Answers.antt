-- Number and evidence of what the head of a file answers, by docs/RULES.md, section 6.
use Rattle.std.specs.Prelude.{List, [], ◌∷◌, ℕ, Ok, Err}
use Rattle.numbers.specs.Answers.{refusal_number, refusal_evidence}
use Rattle.heads.specs.Heads.{Head}

-- A head that is read: 0, and the place after its last pair; else the refusal's.
abbrev pub head_number : Head → ℕ
head_number (Ok (f, at)) = 0
head_number (Err r) = refusal_number r

abbrev pub head_evidence : Head → List ℕ
head_evidence (Ok (f, at)) = at ∷ []
head_evidence (Err r) = refusal_evidence r
