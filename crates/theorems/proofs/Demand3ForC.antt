-- Laws of the definitions in specs/Demand3ForC.antt.
use Rattle.std.specs.Prelude.{◌≡◌, true, false, List, ℕ, suc, ◌+◌, ◌^◌, ◌≤◌, ◌<◌, length, is_some}
use Rattle.std.proofs.Math.Path.{ap, fun_ext}
use Rattle.std.proofs.Common.{ap₂, ◌∙◌}
use native.Mathlib.Omega.{arith}
use Rattle.std.proofs.Math.Dec.{eqb}
use borrow.Author.Tests.{eqb-true, eqb-false, eq-eqb, lt-ltb}
use Rattle.vocabulary.proofs.Test.{both, same_test}
use Rattle.vocabulary.specs.Table.{table}
use Rattle.vocabulary.specs.Bits.{has}
use Rattle.kinds.specs.Tasks.{Set}
use Rattle.kinds.specs.Cycle.{cycle}
use Rattle.reader.specs.Files.{taken_of}
use Rattle.judge.specs.declared.Verdict.TheVariants as verdict
use Rattle.judge.specs.Judgement.{verdict_of}
use Rattle.dispatcher.specs.Answers.{Answer, number_of}
use Rattle.dispatcher.specs.Refusals.{first_state, lengths_fit}
use Rattle.dispatcher.specs.Runs.{Play, play_of, state_at, shown_at}
use Rattle.dispatcher.specs.Bytes.{bytes_of}
use Rattle.dispatcher.specs.ForC.{StartForC, start_for, StepForC, lengths_for_c, impossible_for_c, tick_in, answer_in, step_for}
use Rattle.dispatcher.proofs.StepFacts.{taken_kept, lengths_right, number_refused, report_low}
use Rattle.theorems.specs.Demand2.{accepted_iff}
use Rattle.theorems.specs.Demand3Terms.{Fits, Rows, play_calls, Call, is_taken, is_right, right_calls, reports_of}
use Rattle.theorems.proofs.Demand3Plans.{accepted_fits, plan_playable}
use Rattle.theorems.proofs.Demand3Calls.{follows}
use Rattle.theorems.proofs.Demand3Calls.{Follows, right_allowed}
use Rattle.theorems.proofs.Demand3.{bytes_keep}
use Rattle.theorems.proofs.Demand3Bytes.{starts_in_bytes, taken_in_bytes, step_in_bytes, started_in_bytes, refused_in_bytes}
use Rattle.theorems.specs.Demand3Rows.{row_gives}
use Rattle.theorems.proofs.Demand3Rows.{run_keeps, MakesRun, same_ticks}
use Rattle.theorems.specs.Demand3ForC.{set_in, steps_for_c, StartsForC, taken_for_c, reports_for_c, rows_for_c, PlaysForC}

-- ==== A step for C that is refused, on any bytes, leaves the state's bytes and the output as they are.
pub refused_leaves : (tasks slots b : List ℕ) (c : Call) → (steps_for_c tasks slots).takes b c ≡ false
    → ((steps_for_c tasks slots).next b c ≡ b) × ((steps_for_c tasks slots).row b c ≡ c.output)
unfolding is_taken
refused_leaves tasks slots b c e =
    let a : Answer = (step_for tasks slots c.report b c.output).answer in
    let w = refused_in_bytes tasks slots c.report b c.output (number_refused a (eqb-false (number_of a) 0 e)) in
    (ap (λ (x : StepForC). x.state) w, ap (λ (x : StepForC). x.out) w)

-- ---- from the bytes of a run's states on
module _ (tasks slots : List ℕ) (fitting : is_some (taken_of tasks) ≡ true) (fits : Fits (set_in tasks) slots) (reports : ℕ → ℕ) where
  abbrev s : Set
  s = set_in tasks

  abbrev y : Play
  y = play_of s slots

  abbrev bytes_at : ℕ → List ℕ
  bytes_at n = bytes_of (state_at y reports n)

  -- a call is taken exactly where it is right
  taken_right : (n : ℕ) (c : Call) → (steps_for_c tasks slots).takes (bytes_at n) c ≡ true → is_right s c ≡ true
  unfolding is_taken is_right step_for answer_in
  taken_right n c e =
      let w = taken_kept (is_some (taken_of tasks)) (lengths_for_c s slots (bytes_at n) (length c.output)) (impossible_for_c s (bytes_at n))
      (tick_in (taken_of tasks) slots c.report (bytes_at n))
      (eqb-true (number_of (answer_in (taken_of tasks) slots c.report (bytes_at n) (length c.output))) 0 e) in
      let l = both {a = lengths_fit s.processors (cycle s.tasks) (length slots) (length c.output)} w.lengths in
      let m = lengths_right s.processors (cycle s.tasks) (length slots) (length c.output) l.0 in
      rw (eq-eqb (length c.output) s.processors m.1, lt-ltb c.report (2 ^ s.tasks.count) (report_low s.tasks c.report w.reported))

  right_taken : (n : ℕ) (c : Call) → is_right s c ≡ true → (steps_for_c tasks slots).takes (bytes_at n) c ≡ true
  unfolding is_taken
  right_taken n c e =
      let k = bytes_keep s slots fits reports n in
      ap (λ (x : StepForC). eqb (number_of x.answer) 0)
      (taken_in_bytes tasks slots fitting (state_at y reports n) c.report c.output k.0 k.1 (right_allowed s slots fits reports n c e))

  takes_right : (n : ℕ) (c : Call) → (steps_for_c tasks slots).takes (bytes_at n) c ≡ is_right s c
  takes_right n c = same_test (taken_right n c) (right_taken n c)

  -- and one with the report of step n is that step
  step_is : (n : ℕ) (c : Call) → reports n ≡ c.report → is_right s c ≡ true
      → ((steps_for_c tasks slots).next (bytes_at n) c ≡ bytes_at (suc n)) × ((steps_for_c tasks slots).row (bytes_at n) c ≡ shown_at y reports n)
  step_is n c e r =
      let w = rw e at (step_in_bytes tasks slots fitting fits reports n c.output (rw e (right_allowed s slots fits reports n c r))) in
      (ap (λ (x : StepForC). x.state) w, ap (λ (x : StepForC). x.out) w)

-- ---- from a start that answers 0
module _ (tasks slots b : List ℕ) (zero : StartsForC tasks slots b) where
  abbrev u : Set
  u = set_in tasks

  abbrev z : Play
  z = play_of u slots

  abbrev start : List ℕ
  start = (start_for tasks slots b).state

  begun : (is_some (taken_of tasks) ≡ true) × (length b ≡ 21) × (verdict_of (set_in tasks) slots ≡ verdict.Accepted)
  begun = started_in_bytes tasks slots b zero

  plan_fits : Fits (set_in tasks) slots
  plan_fits = accepted_fits u slots begun.2

  starts_at : start ≡ bytes_of first_state
  starts_at = ap (λ (x : StartForC). x.state) (starts_in_bytes tasks slots begun.0 begun.2 b begun.1)

  module _ (calls : List Call) where
    abbrev told : ℕ → ℕ
    told = reports_of (right_calls u calls)

    abbrev FromStart : Type 0
    FromStart =
        Follows (steps_for_c tasks slots) (λ x c e. (refused_leaves tasks slots x c e).0) (is_right u) (λ c. c.report) told 0
        (λ n. bytes_of (state_at z told n)) (shown_at z told)
        (takes_right tasks slots begun.0 plan_fits told) (step_is tasks slots begun.0 plan_fits told) 0 start calls

    from_start : FromStart
    unfolding state_at reports_of
    from_start =
        follows (steps_for_c tasks slots) (λ x c e. (refused_leaves tasks slots x c e).0) (is_right u) (λ c. c.report) told 0
        (λ n. bytes_of (state_at z told n)) (shown_at z told)
        (takes_right tasks slots begun.0 plan_fits told) (step_is tasks slots begun.0 plan_fits told)
        calls 0 start starts_at (λ k. ap told (let g : 0 + k ≡ k = omega arith in g))

    -- the rows and the bytes of the run
    played : play_calls (steps_for_c tasks slots) start calls
        ≡ record { rows = table (shown_at z told) (length (right_calls u calls)); state = bytes_of (state_at z told (length (right_calls u calls))) }
    played =
        let n : ℕ = length (right_calls u calls) in
        let a : 0 + n ≡ n = omega arith in
        let e : ◌≡◌ {A = ℕ → List ℕ} (λ k. shown_at z told (0 + k)) (shown_at z told)
        = fun_ext (λ k. ap (shown_at z told) (let g : 0 + k ≡ k = omega arith in g)) in
        from_start.played
        ∙ ap₂ (λ (f : ℕ → List ℕ) (x : ℕ). record { rows = table f n; state = bytes_of (state_at z told x) }) e a

    makes_run : MakesRun (steps_for_c tasks slots) start calls z
    makes_run = rw from_start.taken (ap (λ (r : Rows (List ℕ)). r.rows) played)

    -- ==== If the start for C answers 0, then any list of steps for C, with any reports and outputs and refused ones in between, plays the accepted plan, and
    -- every clause of demand 3 holds of the rows that it writes.
    pub plays_for_C : PlaysForC tasks slots b calls
    plays_for_C =
        record {
          accepted = begun.2;
          taken = from_start.taken;
          written = makes_run;
          left = rw from_start.taken (ap (λ (r : Rows (List ℕ)). r.state) played);
          keeps =
              rw makes_run
              (run_keeps u slots plan_fits ((accepted_iff u slots).0 begun.2).3 (reports_for_c tasks slots b calls) (length (taken_for_c tasks slots b calls)));
        }

-- ==== Two starts for C that answer 0, on the same tasks and plan, and two lists of steps, with refused ones at any places: where the steps taken report the
-- same of a task up to tick t, they give the task the same at tick t.
pub own_reports_for_C : (tasks slots b b' : List ℕ) → StartsForC tasks slots b → StartsForC tasks slots b'
    → (calls calls' : List Call) (i t : ℕ) → i < (set_in tasks).tasks.count
    → t < length (rows_for_c tasks slots b calls)
    → t < length (rows_for_c tasks slots b' calls')
    → ((k : ℕ) → k ≤ t → has (reports_for_c tasks slots b calls k) i ≡ has (reports_for_c tasks slots b' calls' k) i)
    → row_gives (rows_for_c tasks slots b calls) i t ≡ row_gives (rows_for_c tasks slots b' calls') i t
own_reports_for_C tasks slots b b' e e' calls calls' =
    same_ticks (play_of (set_in tasks) slots) (plan_playable (set_in tasks) slots (plan_fits tasks slots b e))
    (steps_for_c tasks slots) (start_for tasks slots b).state calls (makes_run tasks slots b e calls)
    (steps_for_c tasks slots) (start_for tasks slots b').state calls' (makes_run tasks slots b' e' calls')
