-- Demand 2 for C: the judge and the screen on bytes, and on the two parts of a file that is read.
use Rattle.std.specs.Prelude.{◌≡◌, true, List, ℕ, ◌*◌, ◌<◌, ◌≤◌, length, get_or, is_some}
use Rattle.kinds.specs.Tasks.{Set, view}
use Rattle.kinds.specs.Cycle.{cycle}
use Rattle.kinds.specs.Plans.{plan_of}
use Rattle.kinds.specs.Valid.{Valid}
use Rattle.reader.specs.Files.{taken_of, set_taken}

-- the set of the bytes that are lent as tasks
abbrev pub set_of_tasks : List ℕ → Set
set_of_tasks tasks = view (set_taken tasks)

-- the bytes of tasks are a head and nothing more, and those of the plan have m·H slots, none above the task count, that are right for ever
pub record Right (tasks plan : List ℕ) : Type 0 where
  pub whole : is_some (taken_of tasks) ≡ true
  pub long : length plan ≡ (set_of_tasks tasks).processors * cycle (set_of_tasks tasks).tasks
  pub low : (e : ℕ) → e < length plan → get_or plan e 0 ≤ (set_of_tasks tasks).tasks.count
  pub valid : Valid (set_of_tasks tasks) (plan_of (set_of_tasks tasks) plan)
