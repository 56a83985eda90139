-- Demand 3: what runs of the dispatcher give each job.
use Rattle.std.specs.Prelude.{◌≡◌, refl, Bool, true, false, ◌||◌, ◌⊎◌, ℕ, suc, ◌+◌, ◌-◌, ◌≤◌, ◌<◌, eqb, get_or, length}
use Rattle.std.proofs.Math.Path.{sym, ap, fun_ext}
use Rattle.std.proofs.Common.{◌∙◌, inl, inr, arith}
use mathlib.Core.List.{List, []}
use Rattle.vocabulary.specs.Test.{pick}
use Rattle.vocabulary.proofs.Test.{clash, fails}
use Rattle.vocabulary.specs.Count.{count}
use Rattle.vocabulary.proofs.Count.{count_same, count_mono}
use Rattle.vocabulary.proofs.Table.{get_or_table}
use Rattle.vocabulary.specs.Bits.{has}
use Rattle.kinds.specs.Tasks.{Patterns, Set, running, deadline, from_task, to_task, pair_count}
use Rattle.kinds.specs.Jobs.{release, in_window}
use Rattle.kinds.specs.Links.{link_from, link_to}
use Rattle.kinds.specs.Plans.{plan_of}
use Rattle.kinds.specs.Valid.{Valid, InSomeWindow}
use Rattle.kinds.proofs.SoundFacts.{sound_facts}
use Rattle.laws.proofs.Windows.{window_yes, window_facts}
use Rattle.judge.specs.declared.Verdict.TheVariants as verdict
use Rattle.judge.specs.Judgement.{verdict_of}
use Rattle.dispatcher.specs.declared.State.{State}
use Rattle.dispatcher.specs.Steps.{done_of, asleep, byte_of, row_of, in_row}
use Rattle.dispatcher.specs.Refusals.{first_state, on_verdict, started_of}
use Rattle.dispatcher.specs.Runs.{Play, play_of, tick_at, state_at, shown_at, gives, finishes}
use Rattle.dispatcher.specs.Bytes.{bytes_of, state_of, unclear}
use Rattle.dispatcher.proofs.StateBytes.{clear_state, possible_round_trip}
use Rattle.theorems.specs.Demand3Terms.{planned, Playable, ticks_planned, ticks_given, AllPlannedBefore, NotHeardBefore, TickGiven, Right}
use Rattle.theorems.specs.Demand3Terms.{Fits, LowReports, GoesOn, Rows, play_calls, taken_calls, Call, step_calls, right_calls, reports_of, run_of}
use Rattle.theorems.specs.OneTask.{gives_alone}
use Rattle.theorems.proofs.OneTask.{gives_wanted, same_gives, after_end, until_end}
use Rattle.theorems.specs.OneTask.{released_at, told_at}
use Rattle.theorems.proofs.OneTask.{as_alone, ends_alone_lem}
use Rattle.theorems.proofs.OneTask.{is_released, not_released}
use Rattle.theorems.proofs.Demand3Plans.{always_possible, step_goes_on}
use Rattle.theorems.proofs.Demand3Plans.{plan_playable, plan_right}
use Rattle.theorems.proofs.Demand3Calls.{without_refused, step_stays, taken_are_right, calls_run, right_low}

-- ---- the way there
same_reports : (i : ℕ) (reports reports' : ℕ → ℕ) → ((n : ℕ) → has (reports n) i ≡ has (reports' n) i) → told_at reports i ≡ told_at reports' i
unfolding told_at
same_reports i reports reports' same = fun_ext same

-- ==== Demand 3, rules R13.3 to R13.6: from an accepted plan, whatever is reported and however long it is played, a job that is not heard to finish early has
-- its planned ticks by its deadline, no job gets more or any after it is heard to finish, links are kept, and a task's ticks hang on its own reports only.

-- First what holds of any play, whatever its rows: `reports n` is the report that step n is handed, and `gives y reports i n` says that task i has tick n.
module _ (y : Play) (f : Playable y) (i : ℕ) (l : i < y.tasks.count) (reports : ℕ → ℕ) where
  -- Every tick given is a planned one.
  pub only_planned : (t : ℕ) → gives y reports i t ≡ true → planned y i t ≡ true
  only_planned t g = gives_wanted (planned y i) (released_at y i) (told_at reports i) t (sym (as_alone y f i l reports t) ∙ g)

  -- A job that was not heard to finish before tick t is given tick t exactly if it is planned.
  pub as_planned : (k t : ℕ) → release y.tasks i k ≤ t
      → ((x : ℕ) → release y.tasks i k ≤ x → x < t → finishes y reports i x ≡ false)
      → gives y reports i t ≡ planned y i t
  as_planned k t a early =
      as_alone y f i l reports t
      ∙ until_end (planned y i) (released_at y i) (told_at reports i) (release y.tasks i k) t (is_released y f i l k) a
      (λ x b c. sym (ends_alone_lem y f i l reports x) ∙ early x b c)

  -- So a job whose planned ticks in its window all lie before e, and that is not heard to finish before tick e - 1, is given exactly its planned ticks, tick
  -- by tick, these and no others. With the least such e, tick e - 1 is its last planned tick.
  pub each_planned : (k e : ℕ) → AllPlannedBefore y i k e → NotHeardBefore y reports i k e
      → (t : ℕ) → in_window y.tasks i k t ≡ true → gives y reports i t ≡ planned y i t
  each_planned k e last early t w = go (planned y i t) refl
    where
      go : (b : Bool) → planned y i t ≡ b → gives y reports i t ≡ planned y i t
      go true p =
          let z : t < e = last t w p in
          as_planned k t (window_facts y.tasks i k t w).0 (λ x a b. early x a (omega arith))
      go false p = fails (λ g. clash (only_planned t g) p) ∙ sym p

  -- They are as many when its deadline has passed.
  pub all_planned : (k e : ℕ) → AllPlannedBefore y i k e → NotHeardBefore y reports i k e → ticks_given y reports i k ≡ ticks_planned y i k
  all_planned k e last early =
      count_same (gives y reports i) (planned y i) (release y.tasks i k) (release y.tasks i k) (deadline y.tasks i)
      (λ d c. each_planned k e last early (release y.tasks i k + d) (window_yes y.tasks i k d c))

  -- No stretch of time, a job's window among them, has more given ticks than planned ones.
  pub never_more : (a n : ℕ) → count (gives y reports i) a n ≤ count (planned y i) a n
  never_more a n = count_mono (gives y reports i) (planned y i) a n (λ t b. only_planned (a + t))

  -- Once a job is heard to finish, no tick is given up to the next release.
  pub none_after : (k n t : ℕ) → release y.tasks i k ≤ n → finishes y reports i n ≡ true → n < t → t < release y.tasks i (suc k)
      → gives y reports i t ≡ false
  none_after k n t a h b c =
      as_alone y f i l reports t
      ∙ after_end (planned y i) (released_at y i) (told_at reports i) n t (sym (ends_alone_lem y f i l reports n) ∙ h) b
      (λ x p q. not_released y f i l k x (omega arith) (omega arith))

  -- Two runs that differ only in other tasks' reports give the task the same ticks.
  pub own_reports_only : (reports' : ℕ → ℕ) → ((n : ℕ) → has (reports n) i ≡ has (reports' n) i) → (n : ℕ) → gives y reports i n ≡ gives y reports' i n
  own_reports_only reports' same n =
      as_alone y f i l reports n
      ∙ ap (λ (b : ℕ → Bool). gives_alone (planned y i) (released_at y i) b n) (same_reports i reports reports' same)
      ∙ sym (as_alone y f i l reports' n)

  -- What is reported later changes nothing: runs with the same reports of the task up to a tick give it the same at that tick.
  pub own_reports_so_far : (reports' : ℕ → ℕ) (t : ℕ) → ((n : ℕ) → n ≤ t → has (reports n) i ≡ has (reports' n) i) → gives y reports i t ≡ gives y reports' i t
  unfolding told_at
  own_reports_so_far reports' t same =
      as_alone y f i l reports t
      ∙ same_gives (planned y i) (released_at y i) (told_at reports i) (told_at reports' i) t same
      ∙ sym (as_alone y f i l reports' t)

-- Each processor shows its own slot of the tick, or nothing.
pub shows_slot : (y : Play) (reports : ℕ → ℕ) (n q : ℕ) → q < y.processors
    → (get_or (shown_at y reports n) q 0 ≡ 0) ⊎ (get_or (shown_at y reports n) q 0 ≡ y.rows n q)
unfolding shown_at row_of byte_of
shows_slot y reports n q l =
    let s : State = state_at y reports n in
    let done : ℕ = done_of (tick_at y n s (reports n)) in
    let f : ℕ → ℕ = λ q. byte_of y.tasks s done (y.rows n q) in
    by (eqb (y.rows n q) 0 || (asleep y.tasks s (y.rows n q - 1) || has done (y.rows n q - 1))) (get_or_table f y.processors q 0 l)
  where
    by : {x : ℕ} (b : Bool) → x ≡ pick b 0 (y.rows n q) → (x ≡ 0) ⊎ (x ≡ y.rows n q)
    by true e = inl e
    by false e = inr e

-- Then what holds of any play that is right for patterns, as a valid plan's is (`valid_right`).
module _ (y : Play) (f : Playable y) (v : Patterns) (right : Right y v) (reports : ℕ → ℕ) where
  -- A job that is not heard to finish before its last planned tick has had exactly its running time at its deadline,
  pub all_running : (i k e : ℕ) → i < y.tasks.count → AllPlannedBefore y i k e → NotHeardBefore y reports i k e
      → ticks_given y reports i k ≡ running y.tasks i
  all_running i k e l last early = all_planned y f i l reports k e last early ∙ right.exact i k l

  -- and no job more.
  pub never_over : (i k : ℕ) → i < y.tasks.count → ticks_given y reports i k ≤ running y.tasks i
  never_over i k l = omega (arith, never_more y f i l reports (release y.tasks i k) (deadline y.tasks i), right.exact i k l)

  -- Every tick given lies in a window of its task.
  pub nobody_outside : (i t : ℕ) → i < y.tasks.count → gives y reports i t ≡ true → InSomeWindow y.tasks i t
  nobody_outside i t l g = right.inside i t l (only_planned y f i l reports t g)

  -- Every tick given to the first job of a link, in its window, is earlier than every tick given to the second in its.
  pub in_order_lem : (k q n x z : ℕ) → k < v.count → q < pair_count v k
      → TickGiven y reports (from_task v k) (link_from y.tasks v k q n) x
      → TickGiven y reports (to_task v k) (link_to y.tasks v k q n) z
      → x < z
  in_order_lem k q n x z lk lq a b =
      right.kept k q n x z lk lq
      (record { planned = only_planned y f (from_task v k) (right.from_low k lk) reports x a.given; within = a.within })
      (record { planned = only_planned y f (to_task v k) (right.to_low k lk) reports z b.given; within = b.within })

-- Then where a run begins: starting on an accepted plan gives the first state,
pub starts : (s : Set) (slots : List ℕ) (state : State) → verdict_of s slots ≡ verdict.Accepted → (started_of s slots state).state ≡ first_state
unfolding started_of on_verdict
starts s slots state e = rw e

-- and what refused steps do: any list of calls, from any state, plays as the list without the refused ones.
pub refused_is_none : (s : Set) (slots : List ℕ) (state : State) (calls : List Call)
    → play_calls (step_calls s slots) state (taken_calls (step_calls s slots) state calls) ≡ play_calls (step_calls s slots) state calls
refused_is_none s slots state calls = without_refused (step_calls s slots) (step_stays s slots) state calls

-- Last what holds of a plan that keeps rules 10, 11 and 12, as an accepted one does (`accepted_fits`): its repetition is a play of the kind above,
module _ (s : Set) (slots : List ℕ) (fits : Fits s slots) where
  pub playable : Playable (play_of s slots)
  playable = plan_playable s slots fits

  -- and where the plan is valid, as an accepted one is, right for the set's patterns.
  pub valid_right : Valid s (plan_of s slots) → Right (play_of s slots) s.patterns
  valid_right = plan_right s slots fits

  -- No step with an output of m bytes and no report bit at or above the task count is refused, however many went before it: the state is possible, the step
  -- hands back the run's next state, and leaves the run's next row in the output.
  pub goes_on : (reports : ℕ → ℕ) → LowReports s reports → (n : ℕ) → GoesOn s slots reports n
  goes_on reports low n = step_goes_on s slots fits reports n (low n)

  -- Of any list of calls from the first state on, those with an output of m bytes and no report bit at or above the task count are taken, and no other.
  pub refused_only : (calls : List Call) → taken_calls (step_calls s slots) first_state calls ≡ right_calls s calls
  refused_only calls = taken_are_right s slots fits calls

  -- Their reports are of the kind that goes on,
  pub reports_low : (calls : List Call) → LowReports s (reports_of (right_calls s calls))
  reports_low calls k = right_low s calls k

  -- and the list plays as the run that is handed these reports in order:
  pub calls_are_run : (calls : List Call)
      → play_calls (step_calls s slots) first_state calls ≡ run_of (play_of s slots) (reports_of (right_calls s calls)) (length (right_calls s calls))
  calls_are_run calls = calls_run s slots fits calls

  -- row t of what the calls leave in their outputs shows the tasks that the run gives tick t.
  pub rows_give : (calls : List Call) (i t : ℕ) → t < length (right_calls s calls)
      → in_row (get_or (play_calls (step_calls s slots) first_state calls).rows t []) i ≡ gives (play_of s slots) (reports_of (right_calls s calls)) i t
  unfolding gives
  rows_give calls i t l =
      ap (λ (p : Rows State). in_row (get_or p.rows t []) i) (calls_are_run calls)
      ∙ ap (λ (row : List ℕ). in_row row i) (get_or_table (shown_at (play_of s slots) (reports_of (right_calls s calls))) (length (right_calls s calls)) t [] l)

  -- A state that goes through its 21 bytes between two steps is kept, so that this holds of a run that C makes.
  pub bytes_keep : (reports : ℕ → ℕ) (n : ℕ)
      → (unclear (bytes_of (state_at (play_of s slots) reports n)) ≡ false)
      × (state_of (bytes_of (state_at (play_of s slots) reports n)) ≡ state_at (play_of s slots) reports n)
  bytes_keep reports n =
      let state : State = state_at (play_of s slots) reports n in
      (clear_state state, possible_round_trip s (sound_facts s fits.is_sound) state (always_possible s slots fits reports n))
