-- Which job a slot belongs to, and at what time: what the walk over the slots notes.
use Rattle.std.specs.Prelude.{◌≡◌, Bool, false, List, ℕ, zero, suc, ◌+◌, ◌-◌, ◌*◌, ◌/◌, ◌%◌, ◌<◌, ◌≤◌, ltb, get_or, length, Option, Some, None}
use Rattle.std.specs.Int.{◌∣◌}
use Rattle.vocabulary.specs.Test.{pick}
use Rattle.vocabulary.specs.Tally.{Tally}
use Rattle.kinds.specs.declared.Task.{Task}
use Rattle.kinds.specs.Tasks.{Tasks, task_at, period, offset, deadline}
use Rattle.kinds.specs.Cycle.{cycle, jobs_of, jobs_before, jobs}
use Rattle.kinds.specs.Jobs.{number_of_job}
use Rattle.kinds.specs.Plans.{Plan}
use Rattle.kinds.specs.Valid.{TickOf}
use Rattle.laws.specs.Window.{time_of}
use Rattle.judge.specs.Rules.{strays}

-- Tasks in their ranges, and a plan for them of the right length with no slot above the task count: what the walk asks.
pub record Fit (u : Tasks) (p : Plan) : Type 0 where
  pub few_tasks : u.count ≤ 64
  pub some_processors : 0 < p.processors
  pub few_processors : p.processors ≤ 8
  pub some_period : (i : ℕ) → i < u.count → 0 < period u i
  pub low_period : (i : ℕ) → i < u.count → period u i ≤ 6000
  pub offset_low : (i : ℕ) → i < u.count → offset u i < period u i
  pub some_deadline : (i : ℕ) → i < u.count → 0 < deadline u i
  pub deadline_low : (i : ℕ) → i < u.count → deadline u i ≤ period u i
  pub divides : (i : ℕ) → i < u.count → period u i ∣ p.cycle
  pub ticks : p.cycle ≡ cycle u
  pub some_cycle : 0 < p.cycle
  pub low_cycle : p.cycle ≤ 6000
  pub few_jobs : jobs u ≤ 2048
  pub long : length p.slots ≡ p.cycle * p.processors
  pub low_slots : (e : ℕ) → get_or p.slots e 0 ≤ u.count

-- A table has the number of each task's first job.
pub record FirstJobs (u : Tasks) (bs : List ℕ) : Type 0 where
  pub each : (i : ℕ) → i < u.count → get_or bs i 0 ≡ jobs_before u i

-- ---- keys and times
-- The number of the job in whose window slot tick c lies, from a task and the number b of its first job; for none 2048, which no job has.
unfoldable pub job_key : ℕ → Task → ℕ → ℕ → ℕ
job_key h t b c = let r : ℕ = time_of h t.offset c - t.offset in pick (ltb (r % t.period) t.deadline) (b + r / t.period) 2048

-- The same number as an option, as the code has it.
unfoldable pub job_at : ℕ → Task → ℕ → ℕ → Option ℕ
job_at h t b c = let r : ℕ = time_of h t.offset c - t.offset in pick (ltb (r % t.period) t.deadline) (Some (b + r / t.period)) None

-- Its number for the table from a slot's value; 2049 for an idle slot.
unfoldable pub key_of : Tasks → Plan → ℕ → ℕ → ℕ
key_of u p zero c = 2049
key_of u p (suc i) c = job_key p.cycle (task_at u.attributes i) (jobs_before u i) c

-- The slot at place e stands in tick e / m, on processor e % m: its key, its time, and rule 21.
unfoldable pub key : Tasks → Plan → ℕ → ℕ
key u p e = key_of u p (get_or p.slots e 0) (e / p.processors)

unfoldable pub time : Tasks → Plan → ℕ → ℕ
time u p e = time_of p.cycle (offset u (get_or p.slots e 0 - 1)) (e / p.processors)

unfoldable pub outside : Tasks → Plan → ℕ → Bool
outside u p e = strays u p (e / p.processors) (e % p.processors)

-- What is known of a time that is noted under number x: it is a tick of the job that has this number.
unfoldable pub Fine : Tasks → Plan → ℕ → ℕ → Type 0
Fine u p x t = (i k : ℕ) → i < u.count → k < jobs_of u i → x ≡ number_of_job u i k → TickOf u p i k t

-- ---- the walk
-- Every slot below e is noted in the table of jobs.
pub record Walked (u : Tasks) (p : Plan) (e : ℕ) (rows : List (List ℕ)) : Type 0 where
  pub noted : Tally (key u p) (time u p) (Fine u p) (jobs u) e rows

-- The slot at e is looked at, and r says whether it lies outside its task's windows.
pub record Visited (u : Tasks) (p : Plan) (e : ℕ) (r : Bool) (rows : List (List ℕ)) : Type 0 where
  pub out : outside u p e ≡ r
  pub next : r ≡ false → Walked u p (e + 1) rows
