-- What starting and stepping answer for every input, and what they leave in the output.
use Rattle.std.specs.Prelude.{Bool, true, false, ◌&&◌, ◌||◌, not, List, [], ◌∷◌, ℕ, ◌+◌, ◌*◌, ◌^◌, eqb, leb, ltb, get_or, length, Ok, Err}
use Rattle.vocabulary.specs.Least.{least, some}
use Rattle.vocabulary.specs.First.{Rule, rule, first_of}
use Rattle.kinds.specs.Tasks.{Tasks, Set}
use Rattle.kinds.specs.Cycle.{cycle}
use Rattle.kinds.specs.Sound.{sound}
use Rattle.judge.specs.declared.Verdict.{Verdict}
use Rattle.judge.specs.declared.Verdict.TheVariants as verdict
use Rattle.judge.specs.Judgement.{verdict_of}
use Rattle.dispatcher.specs.declared.State.{State}
use Rattle.dispatcher.specs.declared.Started.{Started}
use Rattle.dispatcher.specs.declared.StepError.TheVariants as error
use Rattle.dispatcher.specs.declared.Stepped.{Stepped}
use Rattle.dispatcher.specs.Answers.{Answer}
use Rattle.dispatcher.specs.Steps.{OneTick, row_of, step_of}

-- Rule R11.2: the state that a start gives.
abbrev pub first_state : State
first_state = record { tick = 0; first = true; done = 0; ran = 0 }

-- Starting runs the judge. A refusal hands back the state that came in.
unfoldable pub on_verdict : {A : Type 0} → Verdict → A → A → A
on_verdict verdict.Accepted a b = a
on_verdict verdict.BadSet a b = b
on_verdict verdict.WrongLength a b = b
on_verdict (verdict.BadSlot e) a b = b
on_verdict (verdict.Twice t q r) a b = b
on_verdict (verdict.Outside t q) a b = b
on_verdict (verdict.WrongCount i k c x y) a b = b
on_verdict (verdict.BrokenLink k q n) a b = b

unfoldable pub started_of : Set → List ℕ → State → Started
started_of s slots state = let v : Verdict = verdict_of s slots in record { verdict = v; state = on_verdict v first_state state }

-- ---- the rules of a step
-- Rule R11.5, which is about 30
unfoldable pub impossible : Tasks → ℕ → State → Bool
impossible u h s = leb h s.tick || (leb (2 ^ u.count) s.done || leb (2 ^ u.count) s.ran)

-- Rule R11.6, which is about 31
unfoldable pub overreports : Tasks → ℕ → Bool
overreports u report = leb (2 ^ u.count) report

-- Rule R11.7, which is about 12 among this tick's slots
unfoldable pub high_slot : ℕ → (ℕ → ℕ) → ℕ → Bool
high_slot n row q = ltb n (row q)

unfoldable pub is_high : OneTick → Bool
is_high k = some (high_slot k.tasks.count k.row) k.processors

-- the place in the plan of the lowest one
unfoldable pub high_place : OneTick → ℕ
high_place k = k.place + least (high_slot k.tasks.count k.row) k.processors

-- Rule R11.4: the refusals of a step in their order. `right` says that tasks and m are a sound set, `fits` that the lengths are right, and `bad` that the
-- state is not possible. A step by value and a step for C differ in these tests and in nothing else.
unfoldable pub step_rules : Bool → Bool → Bool → OneTick → List (Rule Answer)
step_rules right fits bad k =
    rule 10 (not right) (Err error.BadSet)
    ∷ rule 11 (not fits) (Err error.WrongLength)
    ∷ rule 30 bad (Err error.BadState)
    ∷ rule 31 (overreports k.tasks k.report) (Err error.BadReport)
    ∷ rule 12 (is_high k) (Err (error.BadSlot (high_place k)))
    ∷ []

unfoldable pub answer_by : Bool → Bool → Bool → OneTick → Answer
answer_by right fits bad k = first_of (step_rules right fits bad k) (Ok tt)

-- one thing for a tick that is shown, another for a refusal
unfoldable pub if_shown : {A : Type 0} → Answer → A → A → A
if_shown (Ok taken) a b = a
if_shown (Err e) a b = b

abbrev pub is_shown : Answer → Bool
is_shown a = if_shown a true false

-- ---- a step by value
-- the slots of a plan from a place on
abbrev pub row_at : List ℕ → ℕ → ℕ → ℕ
row_at slots at q = get_or slots (at + q) 0

-- the tick that a state comes to: a tick's slots stand together, m for each tick before it
abbrev pub tick_of : Set → List ℕ → State → ℕ → OneTick
tick_of s slots state report =
    record {
      tasks = s.tasks;
      processors = s.processors;
      cycle = cycle s.tasks;
      row = row_at slots (state.tick * s.processors);
      place = state.tick * s.processors;
      state = state;
      report = report;
    }

-- the lengths of plan and output
unfoldable pub lengths_fit : ℕ → ℕ → ℕ → ℕ → Bool
lengths_fit m h slots out = eqb slots (m * h) && eqb out m

unfoldable pub answer_of : Set → List ℕ → State → ℕ → ℕ → Answer
answer_of s slots state report out =
    answer_by
    (sound s)
    (lengths_fit s.processors (cycle s.tasks) (length slots) out)
    (impossible s.tasks (cycle s.tasks) state)
    (tick_of s slots state report)

abbrev pub stepped : Answer → State → Stepped
stepped a s = record { answer = a; state = s }

-- Rule R11.13: a refused step hands back the state that came in,
unfoldable pub stepped_of : Set → List ℕ → State → ℕ → List ℕ → Stepped
stepped_of s slots state report out =
    let a : Answer = answer_of s slots state report (length out) in
    stepped a (if_shown a (step_of (tick_of s slots state report)) state)

-- and no byte of the output changes
unfoldable pub left_of : Set → List ℕ → State → ℕ → List ℕ → List ℕ
left_of s slots state report out = if_shown (answer_of s slots state report (length out)) (row_of (tick_of s slots state report)) out
