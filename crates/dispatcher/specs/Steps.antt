-- One step of the dispatcher, on a row of m slots.
use Rattle.std.specs.Prelude.{Bool, ◌&&◌, ◌||◌, not, List, ℕ, ◌+◌, ◌-◌, ◌%◌, eqb, ltb, get_or, length}
use Rattle.vocabulary.specs.Test.{pick}
use Rattle.vocabulary.specs.Least.{some}
use Rattle.vocabulary.specs.Bits.{has, pack}
use Rattle.vocabulary.specs.Table.{table}
use Rattle.kinds.specs.Tasks.{Tasks, period, offset}
use Rattle.dispatcher.specs.declared.State.{State}

-- What a step is about: tasks, m and H; the tick's slots, row 0, .., row (m - 1), of which the first stands at a place of the plan; the state before the
-- tick and the report that the step is handed.
pub record OneTick : Type 0 where
  pub tasks : Tasks
  pub processors : ℕ
  pub cycle : ℕ
  pub row : ℕ → ℕ
  pub place : ℕ
  pub state : State
  pub report : ℕ

-- slot tick c releases a job of task i: h is the cycle, a multiple of the period, so that adding it keeps the remainder
unfoldable pub releases : Tasks → ℕ → ℕ → ℕ → Bool
releases u h i c = eqb ((c + h - offset u i) % period u i) 0

-- Rule R11.8: a report counts for a task that ran in the last step's tick
unfoldable pub heard : State → ℕ → ℕ → Bool
heard s report i = has s.ran i && has report i

-- Rule R11.9: then the jobs that are released at this tick clear the done marks
unfoldable pub done_at : Tasks → ℕ → State → ℕ → ℕ → Bool
done_at u h s report i = not (releases u h i s.tick) && (has s.done i || heard s report i)

unfoldable pub done_of : OneTick → ℕ
done_of k = pack (done_at k.tasks k.cycle k.state k.report) k.tasks.count

-- the task is not yet awake: the first cycle has not come to its first release
unfoldable pub asleep : Tasks → State → ℕ → Bool
asleep u s i = s.first && ltb s.tick (offset u i)

-- Rule R11.10: a processor's byte, for a slot v
unfoldable pub byte_of : Tasks → State → ℕ → ℕ → ℕ
byte_of u s done v = pick (eqb v 0 || (asleep u s (v - 1) || has done (v - 1))) 0 v

-- the bytes of the tick
unfoldable pub row_of : OneTick → List ℕ
row_of k = table (λ q. byte_of k.tasks k.state (done_of k) (k.row q)) k.processors

-- Rule R11.11: the ran marks become the tasks that are shown.
unfoldable pub stands_at : List ℕ → ℕ → ℕ → Bool
stands_at bytes i q = eqb (get_or bytes q 0) (i + 1)

unfoldable pub in_row : List ℕ → ℕ → Bool
in_row bytes i = some (stands_at bytes i) (length bytes)

unfoldable pub ran_of : List ℕ → ℕ → ℕ
ran_of bytes n = pack (in_row bytes) n

-- Rule R11.12: the tick goes on by one, and behind the last one the first cycle is over.
unfoldable pub after_of : ℕ → State → ℕ → ℕ → State
after_of h s done ran =
    record {
      tick = pick (ltb (s.tick + 1) h) (s.tick + 1) 0;
      first = s.first && ltb (s.tick + 1) h;
      done = done;
      ran = ran;
    }

unfoldable pub step_of : OneTick → State
step_of k = after_of k.cycle k.state (done_of k) (ran_of (row_of k) k.tasks.count)
