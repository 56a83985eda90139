-- Starting and stepping for C: tasks and m are the bytes of a file from the edition to the last pair, and the state is 21 bytes.
use Rattle.std.specs.Prelude.{Bool, not, ◌&&◌, ◌||◌, List, ◌∷◌, ℕ, eqb, length, Option, is_some, unwrap_or}
use Rattle.vocabulary.specs.First.{Rule, rule, first_of}
use Rattle.kinds.specs.Tasks.{Set, view}
use Rattle.kinds.specs.Cycle.{cycle}
use Rattle.kinds.specs.declared.TaskSet.{TaskSet}
use Rattle.kinds.specs.Build.{no_tasks}
use Rattle.reader.specs.Files.{taken_of}
use Rattle.judge.specs.declared.Verdict.{Verdict}
use Rattle.judge.specs.declared.Verdict.TheVariants as verdict
use Rattle.judge.specs.Judgement.{rules}
use Rattle.dispatcher.specs.Answers.{Answer}
use Rattle.dispatcher.specs.Steps.{OneTick, row_of, step_of}
use Rattle.dispatcher.specs.Refusals.{first_state, on_verdict, impossible, lengths_fit, answer_by, if_shown, tick_of}
use Rattle.dispatcher.specs.Bytes.{bytes_of, state_of, unclear}
use Rattle.dispatcher.specs.Outcome.{written_of}

-- ---- starting: as the judge, and rule R12.4, by which 11 is about the state's length too
-- what a start leaves: the verdict, and the state's bytes
pub record StartForC : Type 0 where
  pub verdict : Verdict
  pub state : List ℕ

abbrev pub start_leaves : Verdict → List ℕ → StartForC
start_leaves v b = record { verdict = v; state = b }

-- an accepted plan's state is the first one; a refusal leaves the bytes
unfoldable pub first_bytes : Verdict → List ℕ → List ℕ
first_bytes v b = on_verdict v (written_of first_state b) b

-- tasks that are not taken stand for the empty set
abbrev pub set_of_taken : Option TaskSet → Set
set_of_taken t = view (unwrap_or t (no_tasks 0 0))

-- tasks and the state's length come first, then the judge's rules
unfoldable pub start_rules : Option TaskSet → List ℕ → ℕ → List (Rule Verdict)
start_rules t slots state =
    rule 10 (not (is_some t)) verdict.BadSet
    ∷ rule 11 (not (eqb state 21)) verdict.WrongLength
    ∷ rules (set_of_taken t) slots

unfoldable pub start_verdict : List ℕ → List ℕ → ℕ → Verdict
start_verdict tasks slots state = first_of (start_rules (taken_of tasks) slots state) verdict.Accepted

unfoldable pub start_for : List ℕ → List ℕ → List ℕ → StartForC
start_for tasks slots state =
    let v : Verdict = start_verdict tasks slots (length state) in
    start_leaves v (first_bytes v state)

-- ---- stepping: rule R11.4, with rules R12.3 and R12.4
-- what a step leaves: the answer, the state's bytes and the output
pub record StepForC : Type 0 where
  pub answer : Answer
  pub state : List ℕ
  pub out : List ℕ

abbrev pub step_leaves : Answer → List ℕ → List ℕ → StepForC
step_leaves a b out = record { answer = a; state = b; out = out }

-- the lengths of plan, output and state
abbrev pub lengths_for_c : Set → List ℕ → List ℕ → ℕ → Bool
lengths_for_c s slots b out = lengths_fit s.processors (cycle s.tasks) (length slots) out && eqb (length b) 21

-- Rules R11.5 and R12.3: 30
abbrev pub impossible_for_c : Set → List ℕ → Bool
impossible_for_c s b = unclear b || impossible s.tasks (cycle s.tasks) (state_of b)

-- for tasks that may be taken: the tick that the state's bytes come to, and the answer
abbrev pub tick_in : Option TaskSet → List ℕ → ℕ → List ℕ → OneTick
tick_in t slots report b = tick_of (set_of_taken t) slots (state_of b) report

unfoldable pub answer_in : Option TaskSet → List ℕ → ℕ → List ℕ → ℕ → Answer
answer_in t slots report b out =
    let s : Set = set_of_taken t in
    answer_by (is_some t) (lengths_for_c s slots b out) (impossible_for_c s b) (tick_in t slots report b)

-- a tick that is shown leaves the next state's bytes and its row, and a refusal what was there
unfoldable pub step_for : List ℕ → List ℕ → ℕ → List ℕ → List ℕ → StepForC
step_for tasks slots report b out =
    let t : Option TaskSet = taken_of tasks in
    let a : Answer = answer_in t slots report b (length out) in
    let k : OneTick = tick_in t slots report b in
    step_leaves a (if_shown a (bytes_of (step_of k)) b) (if_shown a (row_of k) out)
