-- A look at a step: what it will do, before anything is written.
use Rattle.std.specs.Prelude.{Bool, true, ◌&&◌, ◌||◌, not, List, [], ℕ, ◌+◌, ◌*◌, ◌<◌, ◌≤◌, eqb, leb, get_or, length, take, drop, Option, is_some, Result, Ok, Err}
use Rattle.vocabulary.specs.Test.{pick}
use Rattle.vocabulary.specs.Bits.{has}
use Rattle.vocabulary.specs.Table.{table}
use Rattle.vocabulary.specs.First.{first_of, from}
use Rattle.kinds.specs.Tasks.{Tasks, Set, period, offset, tasks_of}
use Rattle.kinds.specs.Cycle.{cycle}
use Rattle.kinds.specs.Sound.{sound}
use Rattle.kinds.specs.declared.TaskSet.{TaskSet}
use Rattle.kinds.specs.declared.Counts.{Counts}
use Rattle.reader.specs.Files.{taken_of}
use Rattle.dispatcher.specs.declared.State.{State}
use Rattle.dispatcher.specs.declared.StepError.{StepError}
use Rattle.dispatcher.specs.declared.Shown.{Shown}
use Rattle.dispatcher.specs.Answers.{Answer}
use Rattle.dispatcher.specs.Steps.{OneTick, releases, row_of, step_of}
use Rattle.dispatcher.specs.Refusals.{impossible, step_rules, row_at, tick_of, lengths_fit}
use Rattle.dispatcher.specs.Bytes.{state_of, unclear}
use Rattle.dispatcher.specs.ForC.{set_of_taken, lengths_for_c, impossible_for_c, tick_in}

-- a row in eight bytes: behind it there are zeros
unfoldable pub eight : List ℕ → List ℕ
eight bytes = table (λ q. get_or bytes q 0) 8

-- what a tick shows: the next state and the row
abbrev pub shown_by : OneTick → Shown
shown_by k = record { state = step_of k; row = eight (row_of k) }

-- A step will show its tick, or it will be refused for a reason.
abbrev pub Look : Type 0
Look = Result Shown StepError

unfoldable pub look_by : Answer → OneTick → Look
look_by (Ok taken) k = Ok (shown_by k)
look_by (Err e) k = Err e

-- the answer of the step that a look is about
unfoldable pub answer_by_look : Look → Answer
answer_by_look (Ok w) = Ok tt
answer_by_look (Err e) = Err e

-- What the code's parts answer: the look by a step's rules from rule n on.
unfoldable pub look_from : ℕ → Bool → Bool → Bool → OneTick → Look
look_from n right fits bad k = look_by (first_of (from n (step_rules right fits bad k)) (Ok tt)) k

-- the look at a step by value, and at a step for C
unfoldable pub look_of : Set → List ℕ → State → ℕ → ℕ → Look
look_of s slots state report out =
    look_from 10
    (sound s)
    (lengths_fit s.processors (cycle s.tasks) (length slots) out)
    (impossible s.tasks (cycle s.tasks) state)
    (tick_of s slots state report)

unfoldable pub look_in : Option TaskSet → List ℕ → ℕ → List ℕ → ℕ → Look
look_in t slots report b out =
    let s : Set = set_of_taken t in
    look_from 10 (is_some t) (lengths_for_c s slots b out) (impossible_for_c s b) (tick_in t slots report b)

unfoldable pub look_for : List ℕ → List ℕ → ℕ → List ℕ → ℕ → Look
look_for tasks slots report b out = look_in (taken_of tasks) slots report b out

-- m entries of a list from a place on, none where they are not all there
unfoldable pub part_of : List ℕ → ℕ → ℕ → List ℕ
part_of xs at m = pick (leb (at + m) (length xs)) (take m (drop at xs)) []

-- ---- numbers and tables in place of a set
abbrev pub tick_on : Counts → List ℕ → (ℕ → ℕ) → ℕ → State → ℕ → OneTick
tick_on f xs row place state report =
    record {
      tasks = tasks_of f.tasks xs;
      processors = f.processors;
      cycle = f.ticks;
      row = row;
      place = place;
      state = state;
      report = report;
    }

-- the tick that a state comes to
abbrev pub tick_for : Counts → List ℕ → List ℕ → State → ℕ → OneTick
tick_for f xs slots state report =
    let at : ℕ = state.tick * f.processors in
    tick_on f xs (row_at slots at) at state report

-- few tasks and processors, whose releases are found in a short cycle
pub record Steppable (f : Counts) (xs : List ℕ) : Type 0 where
  pub few : f.tasks ≤ 64
  pub short : f.ticks ≤ 6000
  pub narrow : f.processors ≤ 8
  pub some_period : (i : ℕ) → i < f.tasks → 0 < period (tasks_of f.tasks xs) i
  pub low_offset : (i : ℕ) → i < f.tasks → offset (tasks_of f.tasks xs) i < f.ticks

-- of a word of marks, task i's is left where no job is released
unfoldable pub keeps : Tasks → ℕ → ℕ → ℕ → ℕ → Bool
keeps u h c marks i = not (releases u h i c) && has marks i

-- the look from the bytes of a state, from rule 11 on
unfoldable pub look_in_bytes : Counts → List ℕ → List ℕ → ℕ → List ℕ → ℕ → Look
look_in_bytes f xs slots report b out =
    look_from 11 true
    (lengths_fit f.processors f.ticks (length slots) out && eqb (length b) 21)
    (unclear b || impossible (tasks_of f.tasks xs) f.ticks (state_of b))
    (tick_for f xs slots (state_of b) report)
