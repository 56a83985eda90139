-- Number and evidence of what the writer answers, by docs/RULES.md, section 15.
use Rattle.std.specs.Prelude.{List, [], ◌∷◌, ℕ, Result, Ok, Err}
use Rattle.writer.specs.declared.WriteError.{WriteError}
use Rattle.writer.specs.declared.WriteError.TheVariants as writeError

-- Rules R7.3 to R7.5 and R15.2; 0 for a file that is written.
abbrev pub number_of : Result ℕ WriteError → ℕ
number_of (Ok n) = 0
number_of (Err writeError.BadSet) = 10
number_of (Err writeError.WrongLength) = 11
number_of (Err (writeError.BadSlot e)) = 12
number_of (Err writeError.TooShort) = 18

-- Rule R15.1: 0 shows the file's length, 12 a place in the plan, the others nothing.
abbrev pub evidence_of : Result ℕ WriteError → List ℕ
evidence_of (Ok n) = n ∷ []
evidence_of (Err writeError.BadSet) = []
evidence_of (Err writeError.WrongLength) = []
evidence_of (Err (writeError.BadSlot e)) = e ∷ []
evidence_of (Err writeError.TooShort) = []
