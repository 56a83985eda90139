-- Demand 3 from the calls for C alone: a start that answers 0, and then any number of steps on the bytes of the state as each call leaves them.
use Rattle.std.specs.Prelude.{◌≡◌, List, ℕ, length}
use Rattle.vocabulary.specs.Table.{table}
use Rattle.kinds.specs.Tasks.{Set, view}
use Rattle.reader.specs.Files.{set_taken}
use Rattle.judge.specs.declared.Verdict.TheVariants as verdict
use Rattle.judge.specs.Answers as judgeAnswers
use Rattle.judge.specs.Judgement.{verdict_of}
use Rattle.dispatcher.specs.Runs.{play_of, state_at, shown_at}
use Rattle.dispatcher.specs.Bytes.{bytes_of}
use Rattle.dispatcher.specs.ForC.{start_for, step_for}
use Rattle.theorems.specs.Demand3Terms.{Caller, play_calls, taken_calls, Call, is_taken, right_calls, reports_of}
use Rattle.theorems.specs.Demand3Rows.{KeepsDemand3}

-- the set that the bytes of tasks stand for
abbrev pub set_in : List ℕ → Set
set_in tasks = view (set_taken tasks)

-- steps for C as calls: the state is its bytes, and a call is taken where its answer's number is 0
abbrev pub steps_for_c : List ℕ → List ℕ → Caller (List ℕ) Call
steps_for_c tasks slots =
    record {
      takes = λ b c. is_taken (step_for tasks slots c.report b c.output).answer;
      next = λ b c. (step_for tasks slots c.report b c.output).state;
      row = λ b c. (step_for tasks slots c.report b c.output).out;
    }

-- the start for C on state bytes b answers 0
abbrev pub StartsForC : List ℕ → List ℕ → List ℕ → Type 0
StartsForC tasks slots b = judgeAnswers.number_of (start_for tasks slots b).verdict ≡ 0

-- then steps, each on the bytes that the last call left: the calls that are taken, their reports in order, the rows that they write, the bytes left at the end
abbrev pub taken_for_c : List ℕ → List ℕ → List ℕ → List Call → List Call
taken_for_c tasks slots b calls = taken_calls (steps_for_c tasks slots) (start_for tasks slots b).state calls

abbrev pub reports_for_c : List ℕ → List ℕ → List ℕ → List Call → ℕ → ℕ
reports_for_c tasks slots b calls = reports_of (taken_for_c tasks slots b calls)

abbrev pub rows_for_c : List ℕ → List ℕ → List ℕ → List Call → List (List ℕ)
rows_for_c tasks slots b calls = (play_calls (steps_for_c tasks slots) (start_for tasks slots b).state calls).rows

abbrev pub bytes_left : List ℕ → List ℕ → List ℕ → List Call → List ℕ
bytes_left tasks slots b calls = (play_calls (steps_for_c tasks slots) (start_for tasks slots b).state calls).state

-- What the calls do after a start that answers 0.
pub record PlaysForC (tasks slots b : List ℕ) (calls : List Call) : Type 0 where
  -- The plan is accepted for the set that the tasks' bytes stand for.
  pub accepted : verdict_of (set_in tasks) slots ≡ verdict.Accepted
  -- The calls with an output of m bytes and no report bit at or above the task count are taken, and no other.
  pub taken : taken_for_c tasks slots b calls ≡ right_calls (set_in tasks) calls
  -- The rows that they write are those of the plan's run with their reports in order, one for each,
  pub written : rows_for_c tasks slots b calls
      ≡ table (shown_at (play_of (set_in tasks) slots) (reports_for_c tasks slots b calls)) (length (taken_for_c tasks slots b calls))
  -- they leave the bytes of the run's state,
  pub left : bytes_left tasks slots b calls
      ≡ bytes_of (state_at (play_of (set_in tasks) slots) (reports_for_c tasks slots b calls) (length (taken_for_c tasks slots b calls)))
  -- and every clause of demand 3 holds of these rows and reports.
  pub keeps : KeepsDemand3 (set_in tasks) slots (rows_for_c tasks slots b calls) (reports_for_c tasks slots b calls)
