-- Demand 3: what it means that a job is heard to finish, from what a step does.
use Rattle.std.specs.Prelude.{◌≡◌, false, ℕ, suc, ◌<◌, ◌≤◌}
use Rattle.std.proofs.Math.Bool.{true}
use Rattle.vocabulary.specs.Bits.{has}
use Rattle.kinds.specs.Jobs.{release, in_window}
use Rattle.dispatcher.specs.Steps.{OneTick, done_of}
use Rattle.dispatcher.specs.Runs.{Play, tick_at, state_at, gives}

-- the tick that step n comes to
abbrev pub tick_of_step : Play → (ℕ → ℕ) → ℕ → OneTick
tick_of_step y reports n = tick_at y n (state_at y reports n) (reports n)

-- A report that is heard at step n + 1 is about one job: that whose window holds tick n, and no other's does. The step marks the job's task as done, unless
-- it comes to the release of the next job, which is then not done; up to that release the task has no tick.
pub record HeardFor (y : Play) (reports : ℕ → ℕ) (i n : ℕ) : Type 0 where
  pub job : ℕ
  pub within : in_window y.tasks i job n ≡ true
  pub only : (k : ℕ) → in_window y.tasks i k n ≡ true → k ≡ job
  pub next : suc n ≤ release y.tasks i (suc job)
  pub marked : suc n < release y.tasks i (suc job) → has (done_of (tick_of_step y reports (suc n))) i ≡ true
  pub cleared : suc n ≡ release y.tasks i (suc job) → has (done_of (tick_of_step y reports (suc n))) i ≡ false
  pub over : (t : ℕ) → n < t → t < release y.tasks i (suc job) → gives y reports i t ≡ false
