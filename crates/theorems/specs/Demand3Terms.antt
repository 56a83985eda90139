-- The terms of demand 3.
use Rattle.std.specs.Prelude.{◌≡◌, Bool, true, false, ◌&&◌, List, [], ◌∷◌, map, ℕ, suc, ◌+◌, ◌*◌, ◌^◌, ◌≤◌, ◌<◌, eqb, ltb, get_or, length, Ok}
use Rattle.std.specs.Int.{◌∣◌}
use Rattle.vocabulary.specs.Test.{pick}
use Rattle.vocabulary.specs.Least.{some}
use Rattle.vocabulary.specs.Count.{count}
use Rattle.vocabulary.specs.Table.{table}
use Rattle.kinds.specs.Tasks.{Set, period, offset}
use Rattle.kinds.specs.Tasks.{Patterns, from_task, to_task, pair_count}
use Rattle.kinds.specs.Tasks.{running, deadline}
use Rattle.kinds.specs.Cycle.{cycle}
use Rattle.kinds.specs.Jobs.{release, in_window}
use Rattle.kinds.specs.Links.{link_from, link_to}
use Rattle.kinds.specs.Plans.{awake}
use Rattle.kinds.specs.Sound.{sound}
use Rattle.kinds.specs.Valid.{InSomeWindow}
use Rattle.dispatcher.specs.declared.State.{State}
use Rattle.dispatcher.specs.Answers.{Answer, number_of}
use Rattle.dispatcher.specs.Refusals.{impossible, stepped, stepped_of, left_of}
use Rattle.dispatcher.specs.Runs.{Play, play_of, state_at, shown_at, gives, finishes}

-- ---- plays
-- processor q's slot at time t has task i
unfoldable pub names : Play → ℕ → ℕ → ℕ → Bool
names y i t q = eqb (y.rows t q) (i + 1)

-- time t is a planned tick of task i: some slot has the task, and the task is awake. Of a plan's repetition it is `runs`
unfoldable pub planned : Play → ℕ → ℕ → Bool
planned y i t = awake y.tasks i t && some (names y i t) y.processors

-- What a play has to have so that jobs are released where they should: nothing is asked of its rows.
pub record Playable (y : Play) : Type 0 where
  pub some_cycle : 0 < y.cycle
  pub divides : (i : ℕ) → i < y.tasks.count → period y.tasks i ∣ y.cycle
  pub offset_low : (i : ℕ) → i < y.tasks.count → offset y.tasks i < period y.tasks i

-- how many ticks in its window are planned for job k of task i, and how many a run gives it
abbrev pub ticks_planned : Play → ℕ → ℕ → ℕ
ticks_planned y i k = count (planned y i) (release y.tasks i k) (deadline y.tasks i)

abbrev pub ticks_given : Play → (ℕ → ℕ) → ℕ → ℕ → ℕ
ticks_given y reports i k = count (gives y reports i) (release y.tasks i k) (deadline y.tasks i)

-- the planned ticks of the job all lie before e: with the least such e, tick e - 1 is its last planned tick
abbrev pub AllPlannedBefore : Play → ℕ → ℕ → ℕ → Type 0
AllPlannedBefore y i k e = (t : ℕ) → in_window y.tasks i k t ≡ true → planned y i t ≡ true → t < e

-- the job is not heard to finish before tick e - 1
abbrev pub NotHeardBefore : Play → (ℕ → ℕ) → ℕ → ℕ → ℕ → Type 0
NotHeardBefore y reports i k e = (t : ℕ) → release y.tasks i k ≤ t → suc t < e → finishes y reports i t ≡ false

-- time t is a planned tick of job k of task i, in its window
pub record TickPlanned (y : Play) (i k t : ℕ) : Type 0 where
  pub planned : planned y i t ≡ true
  pub within : in_window y.tasks i k t ≡ true

-- and one that the run gives it
pub record TickGiven (y : Play) (reports : ℕ → ℕ) (i k t : ℕ) : Type 0 where
  pub given : gives y reports i t ≡ true
  pub within : in_window y.tasks i k t ≡ true

-- A play that is right for patterns: demand 2's clauses over planned ticks, whatever the rows.
pub record Right (y : Play) (v : Patterns) : Type 0 where
  pub from_low : (k : ℕ) → k < v.count → from_task v k < y.tasks.count
  pub to_low : (k : ℕ) → k < v.count → to_task v k < y.tasks.count
  pub inside : (i t : ℕ) → i < y.tasks.count → planned y i t ≡ true → InSomeWindow y.tasks i t
  pub exact : (i k : ℕ) → i < y.tasks.count → ticks_planned y i k ≡ running y.tasks i
  pub kept : (k q n x z : ℕ) → k < v.count → q < pair_count v k
      → TickPlanned y (from_task v k) (link_from y.tasks v k q n) x
      → TickPlanned y (to_task v k) (link_to y.tasks v k q n) z
      → x < z

-- ---- plans
-- What the judge has tested of a plan before it looks at ticks: rules 10, 11 and 12 are kept.
pub record Fits (s : Set) (slots : List ℕ) : Type 0 where
  pub is_sound : sound s ≡ true
  pub long : length slots ≡ s.processors * cycle s.tasks
  pub low : (e : ℕ) → e < length slots → get_or slots e 0 ≤ s.tasks.count

-- no report has a bit at or above the task count
abbrev pub LowReports : Set → (ℕ → ℕ) → Type 0
LowReports s reports = (k : ℕ) → reports k < 2 ^ s.tasks.count

-- Step n goes on: its state is possible, and with an output of m bytes it is taken, hands the next state back and leaves its row.
pub record GoesOn (s : Set) (slots : List ℕ) (reports : ℕ → ℕ) (n : ℕ) : Type 0 where
  pub possible : impossible s.tasks (cycle s.tasks) (state_at (play_of s slots) reports n) ≡ false
  pub taken : (out : List ℕ) → length out ≡ s.processors
      → stepped_of s slots (state_at (play_of s slots) reports n) (reports n) out
      ≡ stepped (Ok tt) (state_at (play_of s slots) reports (suc n))
  pub left : (out : List ℕ) → length out ≡ s.processors
      → left_of s slots (state_at (play_of s slots) reports n) (reports n) out
      ≡ shown_at (play_of s slots) reports n

-- ---- calls, of which some may be refused
-- What calls of kind C do to a state of kind S: whether the call is taken, the state that it hands back, and the row that it leaves where it is taken.
pub record Caller (S C : Type 0) : Type 0 where
  pub takes : S → C → Bool
  pub next : S → C → S
  pub row : S → C → List ℕ

-- the rows that the calls taken leave in their outputs, and the last state
pub record Rows (S : Type 0) : Type 0 where
  pub rows : List (List ℕ)
  pub state : S

-- a row more, where the call was taken
unfoldable pub with_row : {S : Type 0} → Bool → List ℕ → Rows S → Rows S
with_row b row rest = record { rows = pick b (row ∷ rest.rows) rest.rows; state = rest.state }

-- each call on the state that the last one left
unfoldable pub play_calls : {S C : Type 0} → Caller S C → S → List C → Rows S
play_calls m s [] = record { rows = []; state = s }
play_calls m s (c ∷ cs) = with_row (m.takes s c) (m.row s c) (play_calls m (m.next s c) cs)

-- the calls without the refused ones
unfoldable pub taken_calls : {S C : Type 0} → Caller S C → S → List C → List C
taken_calls m s [] = []
taken_calls {S} {C} m s (c ∷ cs) =
    let rest : List C = taken_calls m (m.next s c) cs in
    pick (m.takes s c) (c ∷ rest) rest

-- the calls that pass a test
unfoldable pub right_of : {C : Type 0} → (C → Bool) → List C → List C
right_of right [] = []
right_of {C} right (c ∷ cs) = let rest : List C = right_of right cs in pick (right c) (c ∷ rest) rest

-- ---- steps by value as calls
pub record Call : Type 0 where
  pub report : ℕ
  pub output : List ℕ

-- a step was taken where its answer's number is 0
unfoldable pub is_taken : Answer → Bool
is_taken a = eqb (number_of a) 0

abbrev pub step_calls : Set → List ℕ → Caller State Call
step_calls s slots =
    record {
      takes = λ state c. is_taken (stepped_of s slots state c.report c.output).answer;
      next = λ state c. (stepped_of s slots state c.report c.output).state;
      row = λ state c. left_of s slots state c.report c.output;
    }

-- a call that a run's steps can take: an output of m bytes, and no report bit at or above the task count
unfoldable pub is_right : Set → Call → Bool
is_right s c = eqb (length c.output) s.processors && ltb c.report (2 ^ s.tasks.count)

abbrev pub right_calls : Set → List Call → List Call
right_calls s cs = right_of (is_right s) cs

-- the reports of calls in order: step k is handed `reports_of cs k`
unfoldable pub reports_of : List Call → ℕ → ℕ
reports_of cs k = get_or (map (λ c. c.report) cs) k 0

-- the rows and the state of a run after so many steps
abbrev pub run_of : Play → (ℕ → ℕ) → ℕ → Rows State
run_of y reports n = record { rows = table (shown_at y reports) n; state = state_at y reports n }
