-- Laws of the definitions in specs/Demand3Rows.antt.
use Rattle.std.specs.Prelude.{◌≡◌, Bool, true, false, ◌&&◌, ◌⊎◌, ℕ, suc, ◌+◌, ◌≤◌, ◌<◌, get_or}
use Rattle.std.proofs.Math.Path.{sym, ap}
use Rattle.std.proofs.Common.{◌∙◌, inl, inr, arith}
use mathlib.Core.List.{List, []}
use Rattle.std.proofs.Math.ListN.{length, get_or-eq_default}
use Rattle.vocabulary.proofs.Test.{clash, fails, both, decide, lt_or_le}
use Rattle.vocabulary.proofs.Least.{some_none}
use Rattle.vocabulary.proofs.Count.{count_same, count_mono}
use Rattle.vocabulary.specs.Table.{table}
use Rattle.vocabulary.proofs.Table.{length_table, get_or_table}
use Rattle.vocabulary.specs.Bits.{has}
use Rattle.kinds.specs.Tasks.{Set, deadline, from_task, to_task}
use Rattle.kinds.specs.Jobs.{release, due, in_window}
use Rattle.kinds.specs.Plans.{plan_of, runs, ticks}
use Rattle.kinds.specs.Valid.{Valid}
use Rattle.laws.proofs.Windows.{window_yes, window_facts}
use Rattle.dispatcher.specs.declared.State.{State}
use Rattle.dispatcher.specs.Steps.{row_of, stands_at, in_row}
use Rattle.dispatcher.specs.Refusals.{first_state}
use Rattle.dispatcher.specs.Runs.{Play, play_of, shown_at, gives, finishes}
use Rattle.theorems.specs.Demand3Terms.{Playable, Right, Fits, Caller, Rows, play_calls, taken_calls, Call, step_calls, reports_of}
use Rattle.theorems.proofs.Demand3Plans.{plan_playable, plan_right, planned_runs}
use Rattle.theorems.proofs.Demand3.{only_planned, as_planned, never_over, nobody_outside, in_order_lem, shows_slot, none_after, own_reports_so_far}
use Rattle.theorems.proofs.Demand3.{refused_only, calls_are_run}
use Rattle.theorems.proofs.Demand3Shown.{shown_once}
use Rattle.theorems.specs.Demand3Rows.{row_gives, row_finishes, NotHeardEarly, KeepsDemand3}

-- ---- the rows of a run
module _ (y : Play) (reports : ℕ → ℕ) (n : ℕ) where
  abbrev run_rows : List (List ℕ)
  run_rows = table (shown_at y reports) n

  row_at_lem : (t : ℕ) → t < n → get_or run_rows t [] ≡ shown_at y reports t
  row_at_lem t l = get_or_table (shown_at y reports) n t [] l

  row_gives_lem : (i t : ℕ) → t < n → row_gives run_rows i t ≡ gives y reports i t
  unfolding row_gives gives
  row_gives_lem i t l = ap (λ (row : List ℕ). in_row row i) (row_at_lem t l)

  -- past the last row nothing is shown
  row_none : (i t : ℕ) → n ≤ t → row_gives run_rows i t ≡ false
  unfolding row_gives in_row
  row_none i t l =
      ap (λ (row : List ℕ). in_row row i) (get_or-eq_default run_rows [] (let g : length run_rows ≤ t = rw (length_table (shown_at y reports) n) l in g))
      ∙ some_none (stands_at [] i)

  given_run : (i t : ℕ) → row_gives run_rows i t ≡ true → (t < n) × (gives y reports i t ≡ true)
  given_run i t e = go (lt_or_le t n)
    where
      go : (t < n) ⊎ (n ≤ t) → (t < n) × (gives y reports i t ≡ true)
      go (inl l) = (l, sym (row_gives_lem i t l) ∙ e)
      go (inr l) = clash e (row_none i t l)

  row_finishes_lem : (i t : ℕ) → t < n → row_finishes run_rows reports i t ≡ finishes y reports i t
  unfolding row_finishes finishes
  row_finishes_lem i t l = ap (λ (b : Bool). b && has (reports (suc t)) i) (row_gives_lem i t l)

  heard_run : (i t : ℕ) → row_finishes run_rows reports i t ≡ true → finishes y reports i t ≡ true
  unfolding row_finishes
  heard_run i t e = let l : t < n = (given_run i t (both {a = row_gives run_rows i t} e).0).0 in sym (row_finishes_lem i t l) ∙ e

-- ==== The rows of a run keep them, over a plan that keeps rules 10, 11 and 12 and is valid, as an accepted one does and is.
module _ (s : Set) (slots : List ℕ) (fits : Fits s slots) (valid : Valid s (plan_of s slots)) (reports : ℕ → ℕ) (n : ℕ) where
  abbrev y : Play
  y = play_of s slots

  abbrev f : Playable y
  f = plan_playable s slots fits

  abbrev right : Right y s.patterns
  right = plan_right s slots fits valid

  abbrev shown : List (List ℕ)
  shown = table (shown_at y reports) n

  low : (t : ℕ) → t < length shown → t < n
  low t l = rw (length_table (shown_at y reports) n) at l

  only_runs : (i t : ℕ) → i < s.tasks.count → gives y reports i t ≡ true → runs s.tasks (plan_of s slots) i t ≡ true
  only_runs i t l g = ap (λ (p : ℕ → Bool). p t) (sym (planned_runs s slots i)) ∙ only_planned y f i l reports t g

  as_runs : (i k t : ℕ) → i < s.tasks.count → NotHeardEarly s slots shown reports i k → in_window s.tasks i k t ≡ true → t < n
      → row_gives shown i t ≡ runs s.tasks (plan_of s slots) i t
  as_runs i k t l early w a = go (decide (runs s.tasks (plan_of s slots) i t))
    where
      r : Bool
      r = runs s.tasks (plan_of s slots) i t

      go : (r ≡ true) ⊎ (r ≡ false) → row_gives shown i t ≡ r
      go (inl e) =
          row_gives_lem y reports n i t a
          ∙ as_planned y f i l reports k t (window_facts s.tasks i k t w).0
          (λ x b c. sym (row_finishes_lem y reports n i x (omega arith)) ∙ early x t b c (record { ran = e; within = w }))
          ∙ ap (λ (p : ℕ → Bool). p t) (planned_runs s slots i)
      go (inr e) = fails (λ g. clash (only_runs i t l (given_run y reports n i t g).1) e) ∙ sym e

  pub run_keeps : KeepsDemand3 s slots (table (shown_at (play_of s slots) reports) n) reports
  unfolding due ticks shown_at row_of
  run_keeps =
      record {
        wide = λ t a. ap length (row_at_lem y reports n t (low t a)) ∙ length_table _ s.processors;
        own_slot = λ t q a l. rw (row_at_lem y reports n t (low t a)) (shows_slot y reports t q l);
        once = λ i t q r a lq lr c d.
            let e = row_at_lem y reports n t (low t a) in
            shown_once s slots fits valid reports t i q r lq lr (rw e at c) (rw e at d);
        planned = λ i t l g. only_runs i t l (given_run y reports n i t g).1;
        inside = λ i t l g. nobody_outside y f s.patterns right reports i t l (given_run y reports n i t g).1;
        whole = λ i k t l early w a. as_runs i k t l early w (low t a);
        exact = λ i k l early a.
            let b : release s.tasks i k + deadline s.tasks i ≤ n = rw (length_table (shown_at y reports) n) at a in
            count_same (row_gives shown i) (runs s.tasks (plan_of s slots) i) (release s.tasks i k) (release s.tasks i k) (deadline s.tasks i)
            (λ d c. as_runs i k (release s.tasks i k + d) l early (window_yes s.tasks i k d c) (omega arith))
            ∙ valid.exact.each i k l;
        never_more = λ i k l.
            let a = count_mono (row_gives shown i) (gives y reports i) (release s.tasks i k) (deadline s.tasks i)
            (λ d c g. (given_run y reports n i (release s.tasks i k + d) g).1) in
            omega (arith, a, never_over y f s.patterns right reports i k l);
        none_after = λ i k m t l a h b c.
            fails (λ g. clash (given_run y reports n i t g).1 (none_after y f i l reports k m t a (heard_run y reports n i m h) b c));
        ordered = λ k q m x z lk lq a b.
            in_order_lem y f s.patterns right reports k q m x z lk lq
            (record { given = (given_run y reports n (from_task s.patterns k) x a.given).1; within = a.within })
            (record { given = (given_run y reports n (to_task s.patterns k) z b.given).1; within = b.within });
      }

-- ---- calls
module _ {S : Type 0} (m : Caller S Call) (start : S) (calls : List Call) where
  -- the rows that calls leave, each on the state that the last one left, and the reports of those that are taken
  abbrev pub rows_left : List (List ℕ)
  rows_left = (play_calls m start calls).rows

  abbrev pub reports_taken : ℕ → ℕ
  reports_taken = reports_of (taken_calls m start calls)

  -- the rows are those of the play's run with these reports
  abbrev pub MakesRun : Play → Type 0
  MakesRun y = (play_calls m start calls).rows ≡ table (shown_at y (reports_of (taken_calls m start calls))) (length (taken_calls m start calls))

-- what the task has at tick t: two lists of calls, of one kind or of two
pub same_ticks : {S S' : Type 0} (y : Play) → Playable y
    → (m : Caller S Call) (start : S) (calls : List Call) → MakesRun m start calls y
    → (m' : Caller S' Call) (start' : S') (calls' : List Call) → MakesRun m' start' calls' y
    → (i t : ℕ) → i < y.tasks.count → t < length (rows_left m start calls) → t < length (rows_left m' start' calls')
    → ((k : ℕ) → k ≤ t → has (reports_taken m start calls k) i ≡ has (reports_taken m' start' calls' k) i)
    → row_gives (rows_left m start calls) i t ≡ row_gives (rows_left m' start' calls') i t
same_ticks y f m start calls e m' start' calls' e' i t l a b same =
    ap (λ (rows : List (List ℕ)). row_gives rows i t) e
    ∙ row_gives_lem y (reports_taken m start calls) _ i t (rw (length_table (shown_at y (reports_taken m start calls))) at (rw e at a))
    ∙ own_reports_so_far y f i l (reports_taken m start calls) (reports_taken m' start' calls') t same
    ∙ sym (row_gives_lem y (reports_taken m' start' calls') _ i t (rw (length_table (shown_at y (reports_taken m' start' calls'))) at (rw e' at b)))
    ∙ ap (λ (rows : List (List ℕ)). row_gives rows i t) (sym e')

-- ---- steps by value
module _ (s : Set) (slots : List ℕ) (fits : Fits s slots) where
  abbrev steps : Caller State Call
  steps = step_calls s slots

  steps_run : (calls : List Call) → MakesRun steps first_state calls (play_of s slots)
  steps_run calls = rw (refused_only s slots fits calls) (ap (λ (r : Rows State). r.rows) (calls_are_run s slots fits calls))

  -- ==== Any list of calls from the first state on, refused ones in between, leaves rows that keep demand 3, with the reports of the calls that are taken.
  pub calls_keep : Valid s (plan_of s slots) → (calls : List Call)
      → KeepsDemand3 s slots (rows_left (step_calls s slots) first_state calls) (reports_taken (step_calls s slots) first_state calls)
  calls_keep valid calls =
      rw (steps_run calls) (run_keeps s slots fits valid (reports_taken steps first_state calls) (length (taken_calls steps first_state calls)))

  -- ==== Two lists of calls, with refused ones at any places, whose taken calls report the same of a task up to tick t give the task the same at tick t.
  pub calls_own_reports : (calls calls' : List Call) (i t : ℕ) → i < s.tasks.count
      → t < length (rows_left (step_calls s slots) first_state calls)
      → t < length (rows_left (step_calls s slots) first_state calls')
      → ((k : ℕ) → k ≤ t → has (reports_taken (step_calls s slots) first_state calls k) i ≡ has (reports_taken (step_calls s slots) first_state calls' k) i)
      → row_gives (rows_left (step_calls s slots) first_state calls) i t ≡ row_gives (rows_left (step_calls s slots) first_state calls') i t
  calls_own_reports calls calls' =
      same_ticks (play_of s slots) (plan_playable s slots fits) steps first_state calls (steps_run calls) steps first_state calls' (steps_run calls')
