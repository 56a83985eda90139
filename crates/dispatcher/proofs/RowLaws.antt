-- A step over a row from its parts.
use Rattle.std.specs.Prelude.{Option, Some, None}
use mathlib.Core.Path.{◌≡◌, sym, ap, ◌∙◌, fun_ext}
use mathlib.Core.Bool.{Bool, true, false, ◌&&◌, ◌||◌, not}
use mathlib.Core.List.{List}
use mathlib.Core.Logic.{◌⊎◌, inl, inr}
use Prim.Native.Nat.{ℕ, ◌+◌, ◌-◌, ◌^◌, ◌<◌, ◌≤◌}
use native.Mathlib.Nat.{lt_of_lt_of_le}
use native.Mathlib.Omega.{arith}
use lib.Bits.{bit_and, bit_or}
use lib.Dec.{eqb, leb}
use lib.ListN.{get_or, length, get_or-eq_default}
use lib.Pow.{pow_mono}
use borrow.Author.Tests.{lt-leb, ltb-false, eqb-true}
use Rattle.std.specs.Prelude.{Ok, Err}
use Rattle.vocabulary.specs.Test.{pick}
use Rattle.vocabulary.proofs.Test.{lt_or_le, same_test}
use Rattle.vocabulary.specs.Least.{least, some, lowest}
use Rattle.vocabulary.proofs.Least.{some_same, some_yes, some_at, some_lt, some_not, some_least, none_least}
use Rattle.vocabulary.specs.Bits.{has, pack}
use Rattle.vocabulary.proofs.Words.{heard_word}
use Rattle.vocabulary.specs.Table.{table}
use Rattle.vocabulary.proofs.Table.{length_table, get_or_table, is_table}
use Rattle.vocabulary.specs.First.{first_of, from}
use Rattle.kinds.specs.Tasks.{Tasks, tasks_of}
use Rattle.kinds.specs.declared.Counts.{Counts}
use Rattle.slots.specs.High.{high}
use Rattle.dispatcher.specs.declared.State.{State}
use Rattle.dispatcher.specs.declared.StepError.TheVariants as error
use Rattle.dispatcher.specs.Steps.{OneTick, releases, heard, done_at, done_of, asleep, byte_of, row_of, stands_at, in_row, ran_of, after_of, step_of}
use Rattle.dispatcher.specs.Refusals.{high_slot, is_high, high_place, step_rules}
use Rattle.dispatcher.specs.Looks.{Look, eight, look_by, look_from, tick_on, keeps}

-- ---- leaves
pub over_none : (x n : ℕ) → x < 2 ^ 64 → 64 ≤ n → false ≡ leb (2 ^ n) x
over_none x n l h = sym (lt-leb (2 ^ n) x (lt_of_lt_of_le l (pow_mono h)))

-- ---- eight bytes
pub table_same : (f g : ℕ → ℕ) (n : ℕ) → ((i : ℕ) → i < n → f i ≡ g i) → table f n ≡ table g n
table_same f g n h = is_table g n 0 (table f n) (length_table f n) (λ i l. get_or_table f n i 0 l ∙ h i l)

-- a table that is 0 from m on is its first m entries in eight bytes
eight_table : (g : ℕ → ℕ) (m : ℕ) → ((q : ℕ) → m ≤ q → g q ≡ 0) → table g 8 ≡ eight (table g m)
unfolding eight
eight_table g m zero-from = table_same g (λ q. get_or (table g m) q 0) 8 (λ q l. at q (lt_or_le q m))
  where
    at : (q : ℕ) → (q < m) ⊎ (m ≤ q) → g q ≡ get_or (table g m) q 0
    at q (inl l) = sym (get_or_table g m q 0 l)
    at q (inr l) = zero-from q l ∙ sym (get_or-eq_default (table g m) 0 (let z : length (table g m) ≤ q = omega (arith, length_table g m) in z))

-- a task stands in eight bytes where it stands in the row
in_eight : (bytes : List ℕ) (j : ℕ) → length bytes ≤ 8 → some (stands_at (eight bytes) j) 8 ≡ in_row bytes j
unfolding in_row stands_at eight
in_eight bytes j short = some_same (stands_at (eight bytes) j) (stands_at bytes j) 8 (λ q l. ap (λ (x : ℕ). eqb x (j + 1)) (get_or_table (λ q. get_or bytes q 0) 8 q 0 l)) ∙ same_test there back
  where
    there : some (stands_at bytes j) 8 ≡ true → some (stands_at bytes j) (length bytes) ≡ true
    there e = let w = some_at (stands_at bytes j) 8 e in go (least (stands_at bytes j) 8) w.1 (lt_or_le (least (stands_at bytes j) 8) (length bytes))
      where
        go : (q : ℕ) → eqb (get_or bytes q 0) (j + 1) ≡ true → (q < length bytes) ⊎ (length bytes ≤ q) → some (stands_at bytes j) (length bytes) ≡ true
        go q t (inl l) = some_yes (stands_at bytes j) (length bytes) q l t
        go q t (inr l) = absurd (omega (arith, eqb-true (get_or bytes q 0) (j + 1) t, get_or-eq_default bytes 0 l))

    back : some (stands_at bytes j) (length bytes) ≡ true → some (stands_at bytes j) 8 ≡ true
    back e = let w = some_at (stands_at bytes j) (length bytes) e in some_yes (stands_at bytes j) 8 (least (stands_at bytes j) (length bytes)) (omega (arith, w.0)) w.1

-- ---- 12
pub row_first : (row : List ℕ) (n m : ℕ) {q : Option ℕ} → length row ≡ m → q ≡ lowest (high row n) (length row) → q ≡ lowest (high_slot n (λ k. get_or row k 0)) m
unfolding high high_slot
row_first row n m e h = h ∙ ap (lowest (high_slot n (λ k. get_or row k 0))) e

module _ (k : OneTick) where
  pub row_refused : {q : ℕ} → Some q ≡ lowest (high_slot k.tasks.count k.row) k.processors → Err (error.BadSlot (k.place + q)) ≡ look_from 12 true true false k
  unfolding look_from look_by step_rules from first_of is_high high_place
  row_refused {q} found =
      let w = some_least (high_slot k.tasks.count k.row) k.processors q found in
      rw (some_lt (high_slot k.tasks.count k.row) k.processors q w.0 w.1, w.0)

  module _ (no : None ≡ lowest (high_slot k.tasks.count k.row) k.processors) where
    pub row_low : is_high k ≡ false
    unfolding is_high
    row_low = (none_least (high_slot k.tasks.count k.row) k.processors no).1

    pub slots_low : (j : ℕ) → j < k.processors → k.row j ≤ k.tasks.count
    unfolding is_high high_slot
    slots_low j b = ltb-false k.tasks.count (k.row j) (some_not (high_slot k.tasks.count k.row) k.processors row_low j b)

-- a list whose entries are at most n up to its end
pub all_low : (row : List ℕ) (m n : ℕ) → length row ≡ m → ((j : ℕ) → j < m → get_or row j 0 ≤ n) → (j : ℕ) → get_or row j 0 ≤ n
all_low row m n e low j = go (lt_or_le j m)
  where
    go : (j < m) ⊎ (m ≤ j) → get_or row j 0 ≤ n
    go (inl l) = low j l
    go (inr l) = omega (arith, get_or-eq_default row 0 (let z : length row ≤ j = omega (arith, e) in z))

-- a byte shows no task that its slot does not
byte_low : (u : Tasks) (s : State) (done v n : ℕ) → v ≤ n → byte_of u s done v ≤ n
unfolding byte_of
byte_low u s done v n l = go (eqb v 0 || (asleep u s (v - 1) || has done (v - 1)))
  where
    go : (b : Bool) → pick b 0 v ≤ n
    go true = omega arith
    go false = l

pub shown_low : (u : Tasks) (s : State) (row : ℕ → ℕ) (done n : ℕ) (shown : List ℕ) → ((q : ℕ) → row q ≤ n)
    → shown ≡ table (λ q. byte_of u s done (row q)) 8
    → (q : ℕ) → q < 8 → get_or shown q 0 ≤ n
shown_low u s row done n shown low e q l = rw (e, get_or_table (λ q. byte_of u s done (row q)) 8 q 0 l) (byte_low u s done (row q) n (low q))

-- ---- the effect
pub length_row : (k : OneTick) → length (row_of k) ≡ k.processors
unfolding row_of
length_row k = length_table (λ q. byte_of k.tasks k.state (done_of k) (k.row q)) k.processors

-- the done marks are the old ones and those heard, without those of released tasks
done_is : (k : OneTick) → pack (keeps k.tasks k.cycle k.state.tick (bit_or k.state.done (bit_and k.state.ran k.report))) k.tasks.count ≡ done_of k
unfolding done_of done_at heard keeps
done_is k =
    ap (λ (f : ℕ → Bool). pack f k.tasks.count)
    (fun_ext (λ i. ap (λ (b : Bool). not (releases k.tasks k.cycle i k.state.tick) && b) (heard_word k.state.done k.state.ran k.report i)))

module _ (f : Counts) (xs row : List ℕ) (at : ℕ) (s : State) (report : ℕ) (long : length row ≡ f.processors) (narrow : f.processors ≤ 8) where
  abbrev k : OneTick
  k = tick_on f xs (λ q. get_or row q 0) at s report

  module _ (done ran : ℕ) (shown : List ℕ)
      (kept : done ≡ pack (keeps (tasks_of f.tasks xs) f.ticks s.tick (bit_or s.done (bit_and s.ran report))) f.tasks)
      (filled : shown ≡ table (λ q. byte_of (tasks_of 0 xs) s done (get_or row q 0)) 8)
      (told : ran ≡ pack (λ i. some (stands_at shown i) 8) f.tasks) where
    done_eq : done ≡ done_of k
    done_eq = kept ∙ done_is k

    byte_none : (q : ℕ) → f.processors ≤ q → byte_of k.tasks s (done_of k) (get_or row q 0) ≡ 0
    unfolding byte_of
    byte_none q l = rw (get_or-eq_default row 0 (let z : length row ≤ q = omega (arith, long) in z))

    row_eq : shown ≡ eight (row_of k)
    unfolding row_of byte_of asleep
    row_eq =
        filled
        ∙ ap (λ (d : ℕ). table (λ q. byte_of (tasks_of 0 xs) s d (get_or row q 0)) 8) done_eq
        ∙ eight_table (λ q. byte_of k.tasks s (done_of k) (get_or row q 0)) f.processors byte_none

    ran_eq : ran ≡ ran_of (row_of k) f.tasks
    unfolding ran_of
    ran_eq =
        told
        ∙ ap (λ (x : List ℕ). pack (λ i. some (stands_at x i) 8) f.tasks) row_eq
        ∙ ap (λ (g : ℕ → Bool). pack g f.tasks) (fun_ext (λ i. in_eight (row_of k) i row_short))
      where
        row_short : length (row_of k) ≤ 8
        row_short = omega (arith, length_row k)

    pub row_shown : {next : State} → next ≡ after_of f.ticks s done ran → is_high k ≡ false
        → ◌≡◌ {A = Look} (Ok (record { state = next; row = shown })) (look_from 12 true true false k)
    unfolding look_from look_by step_rules from first_of step_of
    row_shown e low = rw (low, e, ran_eq, row_eq, done_eq)
