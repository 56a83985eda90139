-- Demand 3 over what an executive has in its hands: the rows that its calls left, and the reports of the calls that were taken.
use Rattle.std.specs.Prelude.{◌≡◌, Bool, true, false, ◌&&◌, ◌⊎◌, ℕ, suc, ◌≤◌, ◌<◌, get_or}
use mathlib.Core.List.{List, []}
use Rattle.std.proofs.Math.ListN.{length}
use Rattle.vocabulary.specs.Count.{count}
use Rattle.vocabulary.specs.Bits.{has}
use Rattle.kinds.specs.Tasks.{Tasks, Set, running, deadline, from_task, to_task, pair_count}
use Rattle.kinds.specs.Jobs.{release, due, in_window}
use Rattle.kinds.specs.Links.{link_from, link_to}
use Rattle.kinds.specs.Plans.{plan_of, slot, runs}
use Rattle.kinds.specs.Valid.{TickOf, InSomeWindow}
use Rattle.dispatcher.specs.Steps.{stands_at, in_row}

-- row t shows task i
unfoldable pub row_gives : List (List ℕ) → ℕ → ℕ → Bool
row_gives rows i t = in_row (get_or rows t []) i

-- row t shows task i, and the report of the next step that is taken says that it has finished
unfoldable pub row_finishes : List (List ℕ) → (ℕ → ℕ) → ℕ → ℕ → Bool
row_finishes rows reports i t = row_gives rows i t && has (reports (suc t)) i

-- time t is a tick that the rows give job k of task i
pub record RowTick (u : Tasks) (rows : List (List ℕ)) (i k t : ℕ) : Type 0 where
  pub given : row_gives rows i t ≡ true
  pub within : in_window u i k t ≡ true

-- the ticks that the rows give the job in its window
abbrev pub ticks_in : Tasks → List (List ℕ) → ℕ → ℕ → ℕ
ticks_in u rows i k = count (row_gives rows i) (release u i k) (deadline u i)

-- the job was not heard to finish before its last planned tick: where it is heard, none of its planned ticks comes after
abbrev pub NotHeardEarly : Set → List ℕ → List (List ℕ) → (ℕ → ℕ) → ℕ → ℕ → Type 0
NotHeardEarly s slots rows reports i k = (t x : ℕ) → release s.tasks i k ≤ t → t < x → TickOf s.tasks (plan_of s slots) i k x
    → row_finishes rows reports i t ≡ false

-- ==== The clauses of demand 3 over rows and reports: row t is what tick t shows, and step t was handed `reports t`.
pub record KeepsDemand3 (s : Set) (slots : List ℕ) (rows : List (List ℕ)) (reports : ℕ → ℕ) : Type 0 where
  -- A row has a byte for each processor: its slot of the tick, or 0.
  pub wide : (t : ℕ) → t < length rows → length (get_or rows t []) ≡ s.processors
  pub own_slot : (t q : ℕ) → t < length rows → q < s.processors
      → (get_or (get_or rows t []) q 0 ≡ 0) ⊎ (get_or (get_or rows t []) q 0 ≡ slot (plan_of s slots) t q)
  -- No task is shown on two processors in one tick.
  pub once : (i t q r : ℕ) → t < length rows → q < s.processors → r < s.processors
      → stands_at (get_or rows t []) i q ≡ true → stands_at (get_or rows t []) i r ≡ true → q ≡ r
  -- Every tick given is a planned one, in a window of its task.
  pub planned : (i t : ℕ) → i < s.tasks.count → row_gives rows i t ≡ true → runs s.tasks (plan_of s slots) i t ≡ true
  pub inside : (i t : ℕ) → i < s.tasks.count → row_gives rows i t ≡ true → InSomeWindow s.tasks i t
  -- A job that was not heard to finish before its last planned tick has had exactly its planned ticks of those that have passed,
  pub whole : (i k t : ℕ) → i < s.tasks.count → NotHeardEarly s slots rows reports i k → in_window s.tasks i k t ≡ true → t < length rows
      → row_gives rows i t ≡ runs s.tasks (plan_of s slots) i t
  -- and where its deadline has passed, its running time.
  pub exact : (i k : ℕ) → i < s.tasks.count → NotHeardEarly s slots rows reports i k → due s.tasks i k ≤ length rows
      → ticks_in s.tasks rows i k ≡ running s.tasks i
  -- No job gets more,
  pub never_more : (i k : ℕ) → i < s.tasks.count → ticks_in s.tasks rows i k ≤ running s.tasks i
  -- or any after it is heard to finish, up to the next release.
  pub none_after : (i k n t : ℕ) → i < s.tasks.count → release s.tasks i k ≤ n → row_finishes rows reports i n ≡ true
      → n < t → t < release s.tasks i (suc k) → row_gives rows i t ≡ false
  -- None runs before a predecessor's given ticks are over.
  pub ordered : (k q n x z : ℕ) → k < s.patterns.count → q < pair_count s.patterns k
      → RowTick s.tasks rows (from_task s.patterns k) (link_from s.tasks s.patterns k q n) x
      → RowTick s.tasks rows (to_task s.patterns k) (link_to s.tasks s.patterns k q n) z
      → x < z
