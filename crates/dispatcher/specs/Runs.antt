-- Runs: any number of steps and any reports, over a function from true tick to row. A plan's repetition is one such function.
use Rattle.std.specs.Prelude.{Bool, ◌&&◌, List, ℕ, zero, suc, ◌*◌}
use Rattle.vocabulary.specs.Bits.{has}
use Rattle.kinds.specs.Tasks.{Tasks, Set}
use Rattle.kinds.specs.Cycle.{cycle}
use Rattle.kinds.specs.Plans.{plan_of, slot}
use Rattle.dispatcher.specs.declared.State.{State}
use Rattle.dispatcher.specs.Steps.{OneTick, row_of, step_of, in_row}
use Rattle.dispatcher.specs.Refusals.{first_state}

-- tasks, processors, cycle, and the slot that each processor has at each true tick
pub record Play : Type 0 where
  pub tasks : Tasks
  pub processors : ℕ
  pub cycle : ℕ
  pub rows : ℕ → ℕ → ℕ

abbrev pub play_of : Set → List ℕ → Play
play_of s slots = record { tasks = s.tasks; processors = s.processors; cycle = cycle s.tasks; rows = slot (plan_of s slots) }

-- the tick that step n comes to, from a state and with a report
abbrev pub tick_at : Play → ℕ → State → ℕ → OneTick
tick_at y n state report =
    record {
      tasks = y.tasks;
      processors = y.processors;
      cycle = y.cycle;
      row = y.rows n;
      place = state.tick * y.processors;
      state = state;
      report = report;
    }

-- the state before step n, where step k is handed the report `reports k`: a refused step is none
unfoldable pub state_at : Play → (ℕ → ℕ) → ℕ → State
state_at y reports zero = first_state
state_at y reports (suc n) = step_of (tick_at y n (state_at y reports n) (reports n))

-- what step n shows
unfoldable pub shown_at : Play → (ℕ → ℕ) → ℕ → List ℕ
shown_at y reports n = row_of (tick_at y n (state_at y reports n) (reports n))

-- step n gives task i its tick
unfoldable pub gives : Play → (ℕ → ℕ) → ℕ → ℕ → Bool
gives y reports i n = in_row (shown_at y reports n) i

-- task i has tick n, and the next step is handed its report (rule R11.8), so that the job is heard to finish
unfoldable pub finishes : Play → (ℕ → ℕ) → ℕ → ℕ → Bool
finishes y reports i n = gives y reports i n && has (reports (suc n)) i
