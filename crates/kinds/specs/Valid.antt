-- Rule R3.7, over all time: what demand 2 calls right. It has four clauses: each job its full time in its window, no tick outside, no task on two
-- processors at once, every link kept.
use Rattle.std.specs.Prelude.{◌≡◌, true, ℕ, ◌<◌}
use Rattle.kinds.specs.Tasks.{Tasks, Patterns, Set, running, from_task, to_task, pair_count}
use Rattle.kinds.specs.Jobs.{in_window}
use Rattle.kinds.specs.Links.{link_from, link_to}
use Rattle.kinds.specs.Plans.{Plan, awake, shows, runs, ticks}

-- time t is a tick of job k of task i: the task runs there, in the job's window
pub record TickOf (u : Tasks) (p : Plan) (i k t : ℕ) : Type 0 where
  pub ran : runs u p i t ≡ true
  pub within : in_window u i k t ≡ true

-- time t lies in the window of some job of task i
pub record InSomeWindow (u : Tasks) (i t : ℕ) : Type 0 where
  pub job : ℕ
  pub within : in_window u i job t ≡ true

-- no tick outside
pub record Inside (u : Tasks) (p : Plan) : Type 0 where
  pub each : (i t : ℕ) → i < u.count → runs u p i t ≡ true → InSomeWindow u i t

-- never on two processors at once
pub record Alone (u : Tasks) (p : Plan) : Type 0 where
  pub each : (i t q r : ℕ) → i < u.count → awake u i t ≡ true → q < r → r < p.processors → shows p i t q ≡ true → shows p i t r ≡ true → ⊥

-- every job gets exactly its running time in its window
pub record Exact (u : Tasks) (p : Plan) : Type 0 where
  pub each : (i k : ℕ) → i < u.count → ticks u p i k ≡ running u i

-- Rule R3.6: the link from job k of task i to job l of task j is kept. Times are true ones, and not ticks of the cycle
pub record LinkKept (u : Tasks) (p : Plan) (i k j l : ℕ) : Type 0 where
  pub each : (x y : ℕ) → TickOf u p i k x → TickOf u p j l y → x < y

-- every link kept, each repetition of each pair, for ever
pub record Kept (u : Tasks) (v : Patterns) (p : Plan) : Type 0 where
  pub each : (k q n : ℕ) → k < v.count → q < pair_count v k → LinkKept u p (from_task v k) (link_from u v k q n) (to_task v k) (link_to u v k q n)

pub record Valid (s : Set) (p : Plan) : Type 0 where
  pub inside : Inside s.tasks p
  pub alone : Alone s.tasks p
  pub exact : Exact s.tasks p
  pub kept : Kept s.tasks s.patterns p
