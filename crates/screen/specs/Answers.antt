-- Number and evidence of each finding, and of each answer of the call for adjusted times, by docs/RULES.md, sections 8 and 9.
use Rattle.std.specs.Prelude.{Bool, true, false, List, [], ◌∷◌, ℕ, ⊤, Option, Some, None, Result, Ok, Err}
use Rattle.screen.specs.declared.Finding.{Finding}
use Rattle.screen.specs.declared.Finding.TheVariants as finding
use Rattle.screen.specs.declared.Unadjusted.{Unadjusted}
use Rattle.screen.specs.declared.Unadjusted.TheVariants as unadjusted

-- Rules R9.1 to R9.4; 0 for no finding.
abbrev pub finding_number : Option Finding → ℕ
finding_number None = 0
finding_number (Some finding.BadSet) = 10
finding_number (Some (finding.Cycle i k)) = 13
finding_number (Some (finding.Overload a b)) = 14
finding_number (Some (finding.TooTight i k)) = 15

-- 13 shows the lowest job on a cycle, 14 what is needed and what there is, 15 the lowest job that is too tight.
abbrev pub finding_evidence : Option Finding → List ℕ
finding_evidence None = []
finding_evidence (Some finding.BadSet) = []
finding_evidence (Some (finding.Cycle i k)) = i ∷ k ∷ []
finding_evidence (Some (finding.Overload a b)) = a ∷ b ∷ []
finding_evidence (Some (finding.TooTight i k)) = i ∷ k ∷ []

-- What the call for adjusted times answers: that they are written, or why not.
abbrev pub Adjusted : Type 0
Adjusted = Result ⊤ Unadjusted

-- Rule R8.5.
abbrev pub adjusted_number : Adjusted → ℕ
adjusted_number (Ok tt) = 0
adjusted_number (Err unadjusted.BadSet) = 10
adjusted_number (Err unadjusted.WrongLength) = 11
adjusted_number (Err (unadjusted.Cycle i k)) = 13

abbrev pub adjusted_evidence : Adjusted → List ℕ
adjusted_evidence (Ok tt) = []
adjusted_evidence (Err unadjusted.BadSet) = []
adjusted_evidence (Err unadjusted.WrongLength) = []
adjusted_evidence (Err (unadjusted.Cycle i k)) = i ∷ k ∷ []

-- whether an answer writes the buffers
abbrev pub written : Adjusted → Bool
written (Ok tt) = true
written (Err unadjusted.BadSet) = false
written (Err unadjusted.WrongLength) = false
written (Err (unadjusted.Cycle i k)) = false
