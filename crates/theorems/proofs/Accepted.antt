-- From the verdict alone: what an accepted plan brings to the other theorems.
use Rattle.std.specs.Prelude.{◌≡◌, List, ℕ, None}
use Rattle.kinds.specs.Tasks.{Set}
use Rattle.kinds.specs.Plans.{plan_of}
use Rattle.kinds.specs.Valid.{Valid}
use Rattle.judge.specs.declared.Verdict.TheVariants as verdict
use Rattle.judge.specs.Judgement.{verdict_of}
use Rattle.screen.specs.Findings.{finding_of}
use Rattle.theorems.specs.Demand2.{accepted_iff}
use Rattle.theorems.specs.ScreenFinal.{no_finding}
use Rattle.theorems.specs.Demand3Terms.{Fits}
use Rattle.theorems.proofs.Demand3Plans.{accepted_fits}

-- ==== An accepted plan is valid for ever and keeps rules 10, 11 and 12: demand 3's theorems hold of it.
pub accepted_plays : (s : Set) (slots : List ℕ) → verdict_of s slots ≡ verdict.Accepted → Fits s slots × Valid s (plan_of s slots)
accepted_plays s slots e = (accepted_fits s slots e, ((accepted_iff s slots).0 e).3)

-- ==== Rule R9.6: where the screen finds something, no plan for the set is accepted.
pub finding_is_final : (s : Set) → (finding_of s ≡ None → ⊥) → (slots : List ℕ) → verdict_of s slots ≡ verdict.Accepted → ⊥
finding_is_final s h slots e = let w = (accepted_iff s slots).0 e in h (no_finding s w.0 slots w.3)
