-- One task alone, from its planned ticks, its releases and its own report bits; and that the dispatcher does with each task what the task alone would have.
use Rattle.std.specs.Prelude.{◌≡◌, Bool, ◌&&◌, ◌||◌, not, ltb}
use Rattle.std.proofs.Math.Bool.{false}
use Prim.Native.Nat.{ℕ, zero, suc, ◌%◌}
use Rattle.vocabulary.specs.Bits.{has}
use Rattle.dispatcher.specs.Steps.{releases}
use Rattle.dispatcher.specs.Runs.{Play, state_at}
use Rattle.theorems.specs.Demand3Terms.{planned}

-- the two marks of the task
pub record TwoMarks : Type 0 where
  pub done : Bool
  pub ran : Bool

-- the task is held back at time n: it was done or is heard to have finished, and no job of it is released now
unfoldable pub stopped : (ℕ → Bool) → (ℕ → Bool) → TwoMarks → ℕ → Bool
stopped released told s n = not (released n) && (s.done || (s.ran && told n))

-- the marks before step n
unfoldable pub marks_alone : (ℕ → Bool) → (ℕ → Bool) → (ℕ → Bool) → ℕ → TwoMarks
marks_alone wanted released told zero = record { done = false; ran = false }
marks_alone wanted released told (suc n) =
    let s : TwoMarks = marks_alone wanted released told n in
    record { done = stopped released told s n; ran = wanted n && not (stopped released told s n) }

-- the task has tick n
unfoldable pub gives_alone : (ℕ → Bool) → (ℕ → Bool) → (ℕ → Bool) → ℕ → Bool
gives_alone wanted released told n = wanted n && not (stopped released told (marks_alone wanted released told n) n)

-- the task has tick n, and step n + 1 hears that it has finished
unfoldable pub ends_alone : (ℕ → Bool) → (ℕ → Bool) → (ℕ → Bool) → ℕ → Bool
ends_alone wanted released told n = gives_alone wanted released told n && told (suc n)

-- ---- the dispatcher does with each task what the task alone would have
-- a job of task i is released at time n
unfoldable pub released_at : Play → ℕ → ℕ → Bool
released_at y i n = releases y.tasks y.cycle i (n % y.cycle)

-- task i's report bit at step n
unfoldable pub told_at : (ℕ → ℕ) → ℕ → ℕ → Bool
told_at reports i n = has (reports n) i

abbrev pub alone : Play → ℕ → (ℕ → ℕ) → ℕ → TwoMarks
alone y i reports = marks_alone (planned y i) (released_at y i) (told_at reports i)

-- bit i of the marks before step n is what the task alone would have
pub record Sim (y : Play) (i : ℕ) (reports : ℕ → ℕ) (n : ℕ) : Type 0 where
  pub tick : (state_at y reports n).tick ≡ n % y.cycle
  pub first : (state_at y reports n).first ≡ ltb n y.cycle
  pub done : has (state_at y reports n).done i ≡ (alone y i reports n).done
  pub ran : has (state_at y reports n).ran i ≡ (alone y i reports n).ran
