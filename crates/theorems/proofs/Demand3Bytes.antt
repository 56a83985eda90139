-- Demand 3 for C: starting and stepping on bytes.
use Rattle.std.specs.Prelude.{◌≡◌, true, false, ◌&&◌, ◌||◌, not, List, ℕ, suc, length, Ok, is_some}
use Rattle.std.proofs.Common.{sym, ap, ◌∙◌, arith}
use Rattle.std.proofs.Math.Dec.{eqb}
use borrow.Author.Tests.{eq-eqb, eqb-true, not-false}
use Rattle.vocabulary.specs.Test.{pick}
use Rattle.vocabulary.proofs.Test.{missed}
use Rattle.vocabulary.specs.First.{first_of}
use Rattle.kinds.specs.Tasks.{Set, view}
use Rattle.kinds.specs.Cycle.{cycle}
use Rattle.reader.specs.Files.{taken_of, set_taken}
use Rattle.judge.specs.declared.Verdict.TheVariants as verdict
use Rattle.judge.specs.Answers as judgeAnswers
use Rattle.judge.specs.Judgement.{verdict_of}
use Rattle.dispatcher.specs.declared.State.{State}
use Rattle.dispatcher.specs.Answers.{Answer}
use Rattle.dispatcher.specs.declared.Stepped.{Stepped}
use Rattle.dispatcher.specs.Steps.{OneTick, row_of, step_of}
use Rattle.dispatcher.specs.Refusals.{first_state, on_verdict, impossible, lengths_fit, if_shown, is_shown, tick_of, answer_by}
use Rattle.dispatcher.specs.Runs.{play_of, state_at, shown_at}
use Rattle.dispatcher.specs.Bytes.{bytes_of, state_of, unclear}
use Rattle.dispatcher.specs.Outcome.{written_of}
use Rattle.dispatcher.proofs.StateBytes.{length_state}
use Rattle.dispatcher.proofs.StepFacts.{Allowed, kept_shown, right_lengths, none_refuses, when_refused}
use Rattle.dispatcher.specs.ForC.{start_leaves, start_rules, start_verdict, first_bytes, start_for, step_leaves, tick_in, answer_in, step_for}
use Rattle.theorems.proofs.Demand2Bytes.{zero_verdict}
use Rattle.theorems.specs.Demand3Terms.{Fits, LowReports}
use Rattle.theorems.proofs.Demand3Plans.{allowed_at, step_at}
use Rattle.theorems.proofs.Demand3.{bytes_keep}

-- ==== The bytes of tasks that are a head and nothing more stand for a set, and C's run on them is that set's run, to which the theorems of demand 3 apply.
module _ (tasks slots : List ℕ) (fitting : is_some (taken_of tasks) ≡ true) where
  abbrev pub set : Set
  set = view (set_taken tasks)

  -- Starting on an accepted plan leaves the bytes of the first state.
  pub starts_in_bytes : verdict_of set slots ≡ verdict.Accepted → (b : List ℕ) → length b ≡ 21
      → start_for tasks slots b ≡ start_leaves verdict.Accepted (bytes_of first_state)
  unfolding start_for start_verdict start_rules verdict_of first_of first_bytes on_verdict written_of
  starts_in_bytes e b l = rw (fitting, eq-eqb (length b) 21 l, e)

  -- a step that a set's state allows is taken from the state's bytes
  pub taken_in_bytes : (state : State) (report : ℕ) (out : List ℕ) → unclear (bytes_of state) ≡ false → state_of (bytes_of state) ≡ state
      → Allowed set slots state report out
      → step_for tasks slots report (bytes_of state) out
      ≡ step_leaves (Ok tt) (bytes_of (step_of (tick_of set slots state report))) (row_of (tick_of set slots state report))
  unfolding step_for answer_in if_shown
  taken_in_bytes state report out clear same w =
      rw (same, shown)
    where
      shown : answer_by (is_some (taken_of tasks))
          (lengths_fit set.processors (cycle set.tasks) (length slots) (length out) && eqb (length (bytes_of state)) 21)
          (unclear (bytes_of state) || impossible set.tasks (cycle set.tasks) state) (tick_of set slots state report)
          ≡ Ok tt
      shown =
          kept_shown _ _ _ (tick_of set slots state report)
          (record {
            sound = fitting;
            lengths = rw (right_lengths _ _ _ _ w.long w.wide, eq-eqb (length (bytes_of state)) 21 (length_state state));
            possible = rw (clear, w.possible);
            reported = w.in_range;
            low = w.low;
          })

  -- and one with the report of step n, from the bytes of the state before it, is that step
  pub step_in_bytes : Fits set slots → (reports : ℕ → ℕ) (n : ℕ) (out : List ℕ) → Allowed set slots (state_at (play_of set slots) reports n) (reports n) out
      → step_for tasks slots (reports n) (bytes_of (state_at (play_of set slots) reports n)) out
      ≡ step_leaves (Ok tt) (bytes_of (state_at (play_of set slots) reports (suc n))) (shown_at (play_of set slots) reports n)
  step_in_bytes fits reports n out w =
      let state : State = state_at (play_of set slots) reports n in
      let k = bytes_keep set slots fits reports n in
      let g = step_at set slots fits reports n out w in
      let h = none_refuses set slots state (reports n) out w in
      taken_in_bytes state (reports n) out k.0 k.1 w
      ∙ ap (λ (x : State). step_leaves (Ok tt) (bytes_of x) (row_of (tick_of set slots state (reports n))))
      (ap (λ (x : Stepped). x.state) (sym h.0 ∙ g.0))
      ∙ ap (step_leaves (Ok tt) (bytes_of (state_at (play_of set slots) reports (suc n)))) (sym h.1 ∙ g.1)

  -- No step from the bytes of the run's state, with an output of m bytes and no report bit at or above the task count, is refused: it leaves the bytes of the
  -- run's next state, and the run's next row in the output.
  pub goes_on_in_bytes : Fits set slots → (reports : ℕ → ℕ) → LowReports set reports → (n : ℕ) (out : List ℕ) → length out ≡ set.processors
      → step_for tasks slots (reports n) (bytes_of (state_at (play_of set slots) reports n)) out
      ≡ step_leaves (Ok tt) (bytes_of (state_at (play_of set slots) reports (suc n))) (shown_at (play_of set slots) reports n)
  goes_on_in_bytes fits reports low n out l =
      step_in_bytes fits reports n out (allowed_at set slots fits reports n (reports n) out (low n) l)

-- A start for C that answers 0 was on tasks that are taken, a state of 21 bytes and an accepted plan.
pub started_in_bytes : (tasks slots b : List ℕ) → judgeAnswers.number_of (start_for tasks slots b).verdict ≡ 0
    → (is_some (taken_of tasks) ≡ true) × (length b ≡ 21) × (verdict_of (view (set_taken tasks)) slots ≡ verdict.Accepted)
unfolding start_for start_verdict start_rules verdict_of first_of
started_in_bytes tasks slots b e =
    by (missed (not (is_some (taken_of tasks))) _ _ _ (zero_verdict (start_for tasks slots b).verdict e) (λ q. omega (arith, ap judgeAnswers.number_of q)))
  where
    by : (not (is_some (taken_of tasks)) ≡ false)
        × (pick (not (eqb (length b) 21)) verdict.WrongLength (verdict_of (view (set_taken tasks)) slots) ≡ verdict.Accepted)
        → (is_some (taken_of tasks) ≡ true) × (length b ≡ 21) × (verdict_of (view (set_taken tasks)) slots ≡ verdict.Accepted)
    by w =
        let z = missed (not (eqb (length b) 21)) _ _ _ w.1 (λ q. omega (arith, ap judgeAnswers.number_of q)) in
        (not-false (is_some (taken_of tasks)) w.0, eqb-true (length b) 21 (not-false (eqb (length b) 21) z.0), z.1)

-- A step that is refused, on any bytes, leaves the state's bytes and the output as they are.
module _ (tasks slots : List ℕ) (report : ℕ) (state out : List ℕ) where
  pub refused_in_bytes : is_shown (step_for tasks slots report state out).answer ≡ false
      → step_for tasks slots report state out ≡ step_leaves (step_for tasks slots report state out).answer state out
  unfolding step_for
  refused_in_bytes e =
      let a : Answer = answer_in (taken_of tasks) slots report state (length out) in
      let k : OneTick = tick_in (taken_of tasks) slots report state in
      rw (when_refused a (bytes_of (step_of k)) state e, when_refused a (row_of k) out e)
