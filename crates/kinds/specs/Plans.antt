-- A plan's endless repetition.
use Rattle.std.specs.Prelude.{Bool, ◌&&◌, List, ℕ, ◌+◌, ◌*◌, ◌%◌, eqb, leb, get_or}
use Rattle.vocabulary.specs.Test.{pick}
use Rattle.vocabulary.specs.Least.{least, some, greatest}
use Rattle.vocabulary.specs.Count.{count}
use Rattle.kinds.specs.Tasks.{Tasks, Set, offset, deadline}
use Rattle.kinds.specs.Cycle.{cycle}
use Rattle.kinds.specs.Jobs.{release}

-- Rule R3.1: the slots of a plan, tick after tick, and in a tick processor after processor.
pub record Plan : Type 0 where
  pub slots : List ℕ
  pub processors : ℕ
  pub cycle : ℕ

abbrev pub plan : List ℕ → ℕ → ℕ → Plan
plan slots m h = record { slots = slots; processors = m; cycle = h }

abbrev pub plan_of : Set → List ℕ → Plan
plan_of s slots = plan slots s.processors (cycle s.tasks)

-- Rule R3.3: the slot that processor q shows at time t.
unfoldable pub slot : Plan → ℕ → ℕ → ℕ
slot p t q = get_or p.slots (t % p.cycle * p.processors + q) 0

-- Rule R3.2: task i is slot i + 1, and 0 is idle.
unfoldable pub shows : Plan → ℕ → ℕ → ℕ → Bool
shows p i t q = eqb (slot p t q) (i + 1)

-- some processor shows task i at time t
unfoldable pub shown : Plan → ℕ → ℕ → Bool
shown p i t = some (shows p i t) p.processors

-- Rule R3.4: a task that is shown runs from its first release on.
unfoldable pub awake : Tasks → ℕ → ℕ → Bool
awake u i t = leb (offset u i) t

unfoldable pub runs : Tasks → Plan → ℕ → ℕ → Bool
runs u p i t = awake u i t && shown p i t

-- Rule R3.5: the ticks that job k of task i gets in its window
unfoldable pub ticks : Tasks → Plan → ℕ → ℕ → ℕ
ticks u p i k = count (runs u p i) (release u i k) (deadline u i)

-- the task runs x ticks past the release of its job k
abbrev pub runs_past : Tasks → Plan → ℕ → ℕ → ℕ → Bool
runs_past u p i k x = runs u p i (release u i k + x)

-- Rule R3.8: the least and the greatest of the job's ticks, in true time; where it gets none, its release. `JobTicks.Gets` says the same by its meaning
unfoldable pub first_tick : Tasks → Plan → ℕ → ℕ → ℕ
first_tick u p i k = release u i k + pick (some (runs_past u p i k) (deadline u i)) (least (runs_past u p i k) (deadline u i)) 0

unfoldable pub last_tick : Tasks → Plan → ℕ → ℕ → ℕ
last_tick u p i k = release u i k + greatest (runs_past u p i k) (deadline u i)
