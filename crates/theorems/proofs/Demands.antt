-- The three demands on one page, over the bytes that an executive has. A call's outcome is a definition of its input: `start_for`, `step_for`, `judged_of`,
-- `screened_of`, `write_head_for`; of the call for adjusted times, `AdjustedBy` says it of number and buffers. That the calls have these outcomes is what
-- their contracts say (crates/flute/src), for every input and without a fault. What is supposed stands before the last arrow, by its name; the proof is the
-- line below.
use Rattle.std.specs.Prelude.{◌≡◌, Bool, true, false, List, ◌↔◌, ℕ, ◌≤◌, ◌<◌, ℤ, length, Result, Ok, Err, is_some}
use Rattle.std.proofs.Math.Path.{refl}
use Rattle.std.proofs.Common.{ap, ◌∙◌}
use Rattle.vocabulary.specs.Test.{pick}
use Rattle.vocabulary.specs.Bits.{has}
use Rattle.kinds.specs.Tasks.{Set, view}
use Rattle.kinds.specs.Plans.{plan_of}
use Rattle.kinds.specs.JobTicks.{Gets}
use Rattle.reader.specs.Files.{taken_of, set_taken}
use Rattle.writer.specs.declared.WriteError.{WriteError}
use Rattle.writer.specs.Answers as writeAnswers
use Rattle.writer.specs.Format.{bytes_of}
use Rattle.writer.specs.Writing.{written_of, left_in, write_for, write_head_for}
use Rattle.screen.specs.Answers.{Adjusted}
use Rattle.screen.specs.declared.Unadjusted.TheVariants as unadjusted
use Rattle.screen.specs.Answers.{finding_number, adjusted_number, written as is_written}
use Rattle.screen.specs.Findings.{adjusted_of, releases_left, deadlines_left}
use Rattle.screen.specs.Heads.{screened_of, adjusted_head, releases_kept, deadlines_kept, AdjustedBy}
use Rattle.network.specs.Causes.{releases_of, deadlines_of}
use Rattle.judge.specs.declared.Verdict.{Verdict}
use Rattle.judge.specs.declared.Verdict.TheVariants as verdict
use Rattle.judge.specs.Answers as judgeAnswers
use Rattle.judge.specs.Heads.{judged_of}
use Rattle.dispatcher.specs.Answers as stepAnswers
use Rattle.dispatcher.specs.Refusals.{on_verdict}
use Rattle.dispatcher.specs.ForC.{StepForC, start_verdict, first_bytes, start_for, step_for}
use Rattle.dispatcher.proofs.StepFacts.{number_refused}
use Rattle.theorems.specs.Names.{Names}
use Rattle.theorems.specs.Demand2.{first_rule}
use Rattle.theorems.specs.Demand2Bytes.{set_of_tasks, Right}
use Rattle.theorems.proofs.Demand2Bytes.{judged_set, judged_zero, screened_final}
use Rattle.theorems.proofs.TicksFell.{fell_in_bytes, start_as_judge}
use Rattle.theorems.specs.ScreenTrue.{Finds, finding_true}
use Rattle.theorems.specs.Demand3Terms.{Call}
use Rattle.theorems.proofs.Demand3Bytes.{refused_in_bytes}
use Rattle.theorems.specs.Demand3Rows.{row_gives}
use Rattle.theorems.specs.Demand3ForC.{StartsForC, rows_for_c, reports_for_c, PlaysForC}
use Rattle.theorems.proofs.Demand3ForC.{plays_for_C}
use Rattle.theorems.proofs.Demand3ForC.{own_reports_for_C}

-- ==== Demand 1. A call that answers another number than 0 has written nothing.
module _ (tasks plan state : List ℕ) where
  pub start_refused : (refused : judgeAnswers.number_of (start_for tasks plan state).verdict ≡ 0 → ⊥) → (start_for tasks plan state).state ≡ state
  unfolding start_for first_bytes on_verdict
  start_refused refused = by (start_verdict tasks plan (length state)) refused
    where
      by : (v : Verdict) → (judgeAnswers.number_of v ≡ 0 → ⊥) → first_bytes v state ≡ state
      by verdict.Accepted h = absurd (h refl)
      by verdict.BadSet h = refl
      by verdict.WrongLength h = refl
      by (verdict.BadSlot x) h = refl
      by (verdict.Twice t q r) h = refl
      by (verdict.Outside t q) h = refl
      by (verdict.WrongCount i k c a b) h = refl
      by (verdict.BrokenLink k q n) h = refl

  pub step_refused : (report : ℕ) (output : List ℕ) (refused : stepAnswers.number_of (step_for tasks plan report state output).answer ≡ 0 → ⊥)
      → ((step_for tasks plan report state output).state ≡ state) × ((step_for tasks plan report state output).out ≡ output)
  step_refused report output refused =
      let w = refused_in_bytes tasks plan report state output (number_refused (step_for tasks plan report state output).answer refused) in
      (ap (λ (x : StepForC). x.state) w, ap (λ (x : StepForC). x.out) w)

pub times_refused : (tasks : List ℕ) (releases deadlines releases' deadlines' : List ℤ) (n : ℕ)
    → (outcome : AdjustedBy adjusted_number tasks releases deadlines n releases' deadlines') (refused : n ≡ 0 → ⊥)
    → (releases' ≡ releases) × (deadlines' ≡ deadlines)
unfolding adjusted_head releases_kept deadlines_kept releases_left deadlines_left
times_refused tasks r d r' d' n outcome refused =
    let s : Set = view (set_taken tasks) in
    let w = by (is_some (taken_of tasks)) (adjusted_of s (length r) (length d)) (releases_of s) (deadlines_of s) (λ z. refused (outcome.answer ∙ z)) in
    (outcome.releases ∙ w.0, outcome.deadlines ∙ w.1)
  where
    unwritten : (a : Adjusted) → (adjusted_number a ≡ 0 → ⊥) → is_written a ≡ false
    unwritten (Ok tt) h = absurd (h refl)
    unwritten (Err unadjusted.BadSet) h = refl
    unwritten (Err unadjusted.WrongLength) h = refl
    unwritten (Err (unadjusted.Cycle i k)) h = refl

    by : (b : Bool) (a : Adjusted) (x y : List ℤ) → (adjusted_number (pick b a (Err unadjusted.BadSet)) ≡ 0 → ⊥)
        → (pick b (pick (is_written a) x r) r ≡ r) × (pick b (pick (is_written a) y d) d ≡ d)
    by true a x y h = let e = unwritten a h in (rw e, rw e)
    by false a x y h = (refl, refl)

pub write_refused : (tasks plan out : List ℕ) (refused : writeAnswers.number_of (write_head_for tasks plan out).answer ≡ 0 → ⊥)
    → (write_head_for tasks plan out).out ≡ out
unfolding write_head_for write_for left_in
write_refused tasks plan out refused = by (written_of (view (set_taken tasks)) plan (length out)) refused
  where
    by : (w : Result ℕ WriteError) → (writeAnswers.number_of w ≡ 0 → ⊥) → left_in w (bytes_of (view (set_taken tasks)) plan) out ≡ out
    by (Ok n) h = absurd (h refl)
    by (Err e) h = refl

-- ==== Demand 2. The judge answers 0 exactly if the tasks are a head and nothing more and the plan is right for ever (`Right`, kinds `Valid`);
pub judge_accepts_right : (tasks plan : List ℕ) → (judgeAnswers.number_of (judged_of tasks plan) ≡ 0) ↔ Right tasks plan
judge_accepts_right = judged_zero

-- else it names the first rule that is broken, and where (`Names`).
pub judge_names_first : (tasks plan : List ℕ) (whole : is_some (taken_of tasks) ≡ true) → Names (set_of_tasks tasks) plan (judged_of tasks plan)
judge_names_first tasks plan whole = rw (judged_set tasks plan whole) (first_rule (set_of_tasks tasks) plan)

-- Where it is 22, the evidence shows what the job gets (kinds `JobTicks.Gets`): how many ticks, and the first and the last of them in true time.
pub judge_shows_ticks : (tasks plan : List ℕ) (i k c a b : ℕ) (wrong : judged_of tasks plan ≡ verdict.WrongCount i k c a b)
    → Gets (set_of_tasks tasks).tasks (plan_of (set_of_tasks tasks) plan) i k c a b
judge_shows_ticks tasks plan i k c a b wrong = (fell_in_bytes tasks plan wrong).0

-- A start answers and shows the same.
pub start_shows_same : (tasks plan : List ℕ) → start_verdict tasks plan 21 ≡ judged_of tasks plan
start_shows_same = start_as_judge

-- What the screen finds is so (`Finds`),
pub screen_is_true : (tasks : List ℕ) (whole : is_some (taken_of tasks) ≡ true) → Finds (set_of_tasks tasks) (screened_of tasks)
unfolding screened_of
screen_is_true tasks whole = rw whole (finding_true (set_of_tasks tasks))

-- and where it finds something no plan with these tasks is accepted.
pub screen_is_final : (tasks : List ℕ) (finding : finding_number (screened_of tasks) ≡ 0 → ⊥) (plan : List ℕ)
    → judgeAnswers.number_of (judged_of tasks plan) ≡ 0 → ⊥
screen_is_final = screened_final

-- ==== Demand 3. After a start that answers 0, whatever steps are called, on the state as each leaves it, refused ones among them: the rows that are written
-- are those of the plan's run, and keep every clause of demand 3 (`PlaysForC`, with `KeepsDemand3` of Demand3Rows).
pub every_play_keeps : (tasks plan state : List ℕ) (started : StartsForC tasks plan state) (calls : List Call) → PlaysForC tasks plan state calls
every_play_keeps = plays_for_C

-- Two such plays whose steps report the same of a task up to a tick give the task the same at that tick.
pub own_reports_decide : (tasks plan state state' : List ℕ) (started : StartsForC tasks plan state) (started' : StartsForC tasks plan state')
    (calls calls' : List Call) (i t : ℕ) (known : i < (set_of_tasks tasks).tasks.count)
    (played : t < length (rows_for_c tasks plan state calls))
    (played' : t < length (rows_for_c tasks plan state' calls'))
    (alike : (k : ℕ) → k ≤ t → has (reports_for_c tasks plan state calls k) i ≡ has (reports_for_c tasks plan state' calls' k) i)
    → row_gives (rows_for_c tasks plan state calls) i t ≡ row_gives (rows_for_c tasks plan state' calls') i t
own_reports_decide = own_reports_for_C
