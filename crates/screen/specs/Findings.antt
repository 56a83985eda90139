-- What the screen and the call for adjusted times answer, for every input.
use Rattle.std.specs.Prelude.{◌||◌, not, List, [], ◌∷◌, ℕ, eqb, ltb, ℤ, length, Option, Some, None, Ok, Err}
use Rattle.vocabulary.specs.Test.{pick}
use Rattle.vocabulary.specs.First.{Rule, rule, first_of}
use Rattle.kinds.specs.Tasks.{Tasks, Set}
use Rattle.kinds.specs.Cycle.{jobs}
use Rattle.kinds.specs.Jobs.{task_of_job, job_of_job}
use Rattle.kinds.specs.Sound.{sound}
use Rattle.screen.specs.declared.Finding.{Finding}
use Rattle.screen.specs.declared.Finding.TheVariants as finding
use Rattle.screen.specs.Answers.{Adjusted}
use Rattle.screen.specs.declared.Unadjusted.TheVariants as unadjusted
use Rattle.screen.specs.Answers.{written}
use Rattle.network.specs.Times.{Weight, own_running}
use Rattle.network.specs.Causes.{load, room, lowest_cycle, lowest_tight_by, releases_of, deadlines_of}

-- 14, where the load is over the room
abbrev pub overload_of : (load room : ℕ) → Option Finding
overload_of l r = pick (ltb r l) (Some (finding.Overload l r)) None

-- Rule R9.5: the findings in their order, for releases over any weight.
unfoldable pub screen_rules : Weight → Set → List (Rule (Option Finding))
screen_rules w s =
    let u : Tasks = s.tasks in
    let x : ℕ = lowest_cycle s in
    let y : ℕ = lowest_tight_by w s in
    rule 10 (not (sound s)) (Some finding.BadSet)
    ∷ rule 13 (ltb x (jobs u)) (Some (finding.Cycle (task_of_job u x) (job_of_job u x)))
    ∷ rule 14 (ltb (room s) (load u)) (Some (finding.Overload (load u) (room s)))
    ∷ rule 15 (ltb y (jobs u)) (Some (finding.TooTight (task_of_job u y) (job_of_job u y)))
    ∷ []

unfoldable pub finding_by : Weight → Set → Option Finding
finding_by w s = first_of (screen_rules w s) None

-- and for those of rule R8.3
abbrev pub finding_of : Set → Option Finding
finding_of s = finding_by own_running s

-- ---- Rule R8.5: the refusals of the call for adjusted times in their order. Here p and q are the lengths of the two buffers.
unfoldable pub adjust_rules : Set → ℕ → ℕ → List (Rule Adjusted)
adjust_rules s p q =
    let u : Tasks = s.tasks in
    let x : ℕ = lowest_cycle s in
    rule 10 (not (sound s)) (Err unadjusted.BadSet)
    ∷ rule 11 (not (eqb p (jobs u)) || not (eqb q (jobs u))) (Err unadjusted.WrongLength)
    ∷ rule 13 (ltb x (jobs u)) (Err (unadjusted.Cycle (task_of_job u x) (job_of_job u x)))
    ∷ []

unfoldable pub adjusted_of : Set → ℕ → ℕ → Adjusted
adjusted_of s p q = first_of (adjust_rules s p q) (Ok tt)

-- what the two buffers hold afterwards; a refusal writes neither
unfoldable pub releases_left : Set → List ℤ → List ℤ → List ℤ
releases_left s releases deadlines = pick (written (adjusted_of s (length releases) (length deadlines))) (releases_of s) releases

unfoldable pub deadlines_left : Set → List ℤ → List ℤ → List ℤ
deadlines_left s releases deadlines = pick (written (adjusted_of s (length releases) (length deadlines))) (deadlines_of s) deadlines
