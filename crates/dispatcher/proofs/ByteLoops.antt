-- The 21 bytes as the code writes and reads them: a byte of a number by its place, and a number from its highest byte down.
use mathlib.Core.Path.{◌≡◌, refl, sym, ap, ◌∙◌}
use mathlib.Core.Bool.{Bool, true, false, not}
use mathlib.Core.List.{List, ◌++◌}
use mathlib.Core.Logic.{◌⊎◌, inl, inr}
use Prim.Native.Nat.{ℕ, zero, suc, ◌+◌, ◌*◌, ◌-◌, ◌/◌, ◌%◌, ◌^◌, ◌<◌, ◌≤◌}
use native.Mathlib.Nat.{div-div-eq-div-mul, div-one, lt_of_lt_of_le, pow-succ'}
use native.Mathlib.Omega.{arith}
use lib.Dec.{lit<, leb, ltb}
use lib.ListN.{get_or, length, get_or-append}
use lib.Seq.{get_or-append-add}
use lib.Pow.{pow-add, pow_mono}
use mir.Val.{bool_byte}
use borrow.Author.Tests.{le-leb, lt-leb, le-ltb, lt-ltb, ne_eqb}
use Rattle.std.specs.Int.{w64, byte_at, bytes_low_first, to_le_bytes}
use Rattle.vocabulary.specs.Test.{bit}
use Rattle.vocabulary.proofs.Test.{lt_or_le}
use Rattle.vocabulary.specs.Table.{table}
use Rattle.vocabulary.proofs.Table.{is_table}
use Rattle.dispatcher.specs.declared.State.{State}
use Rattle.dispatcher.specs.Bytes.{bytes, number, bytes_of, unclear}
use Rattle.dispatcher.specs.Outcome.{written_of, written_is}
use Rattle.dispatcher.proofs.StateBytes.{length_bytes, length_state, first_byte}

-- ---- writing
-- byte k of x, by a shift
pub byte_shift : (n x k : ℕ) → k < n → get_or (bytes n x) k 0 ≡ x / 2 ^ (8 * k) % 256
unfolding bytes
byte_shift zero x k l = absurd (omega arith)
byte_shift (suc n) x zero l = ap (λ (y : ℕ). y % 256) (sym (div-one x))
byte_shift (suc n) x (suc k) l =
    byte_shift n (x / 256) k (omega arith)
    ∙ ap (λ (y : ℕ). y % 256)
    (div-div-eq-div-mul x 256 (2 ^ (8 * k))
    ∙ ap (λ (y : ℕ). x / y) (sym (pow-add 2 8 (8 * k)) ∙ ap (λ (e : ℕ). 2 ^ e) (let g : 8 + 8 * k ≡ 8 * suc k = omega arith in g)))

-- the library's bytes of a number
power_256 : (j : ℕ) → 256 ^ j ≡ 2 ^ (8 * j)
power_256 zero = refl
power_256 (suc j) =
    pow-succ' 256 j
    ∙ ap (λ (y : ℕ). 256 * y) (power_256 j)
    ∙ sym (pow-add 2 8 (8 * j))
    ∙ ap (λ (e : ℕ). 2 ^ e) (let g : 8 + 8 * j ≡ 8 * suc j = omega arith in g)

low_first : (i n x k : ℕ) → k < n → get_or (bytes_low_first i n x) k 0 ≡ byte_at (i + k) x
low_first i zero x k l = absurd (omega arith)
low_first i (suc n) x zero l = ap (λ (j : ℕ). byte_at j x) (let g : i ≡ i + 0 = omega arith in g)
low_first i (suc n) x (suc k) l =
    low_first (suc i) n x k (omega arith)
    ∙ ap (λ (j : ℕ). byte_at j x) (let g : suc i + k ≡ i + suc k = omega arith in g)

pub le_byte : (x k : ℕ) → k < 8 → get_or (to_le_bytes w64 x) k 0 ≡ x / 2 ^ (8 * k) % 256
le_byte x k l = low_first 0 8 x k l ∙ ap (λ (j : ℕ). byte_at j x) (let g : 0 + k ≡ k = omega arith in g) ∙ by k
  where
    by : (j : ℕ) → byte_at j x ≡ x / 2 ^ (8 * j) % 256
    by zero = ap (λ (y : ℕ). y % 256) (sym (div-one x))
    by (suc j) = ap (λ (y : ℕ). x / y % 256) (power_256 (suc j))

-- a list in front
past : (xs ys : List ℕ) (n k : ℕ) → length xs ≡ n → n ≤ k → get_or (xs ++ ys) k 0 ≡ get_or ys (k - n) 0
past xs ys n k e l = ap (λ (j : ℕ). get_or (xs ++ ys) j 0) (let g : k ≡ length xs + (k - n) = omega arith in g) ∙ get_or-append-add xs ys (k - n) 0

module _ (s : State) (k : ℕ) where
  pub tick_byte : k < 4 → s.tick / 2 ^ (8 * k) % 256 ≡ get_or (bytes_of s) k 0
  unfolding bytes_of
  tick_byte l =
      sym (get_or-append (bytes 4 s.tick) (bytes 1 (bit s.first) ++ (bytes 8 s.done ++ bytes 8 s.ran)) 0 k
      (omega (arith, length_bytes 4 s.tick))
      ∙ byte_shift 4 s.tick k l)

  pub bool_byte_lem : 4 ≤ k → k < 5 → bool_byte s.first ≡ get_or (bytes_of s) k 0
  bool_byte_lem l h = same s.first ∙ sym (first_byte s) ∙ ap (λ (j : ℕ). get_or (bytes_of s) j 0) (let g : 4 ≡ k = omega arith in g)
    where
      same : (b : Bool) → bool_byte b ≡ bit b
      same true = refl
      same false = refl

  -- behind the first five bytes
  marks_at : 5 ≤ k → get_or (bytes_of s) k 0 ≡ get_or (bytes 8 s.done ++ bytes 8 s.ran) (k - 5) 0
  unfolding bytes_of
  marks_at l =
      past (bytes 4 s.tick) (bytes 1 (bit s.first) ++ (bytes 8 s.done ++ bytes 8 s.ran)) 4 k (length_bytes 4 s.tick) (omega arith)
      ∙ past (bytes 1 (bit s.first)) (bytes 8 s.done ++ bytes 8 s.ran) 1 (k - 4) (length_bytes 1 (bit s.first)) (omega arith)
      ∙ ap (λ (j : ℕ). get_or (bytes 8 s.done ++ bytes 8 s.ran) j 0) (let g : k - 4 - 1 ≡ k - 5 = omega arith in g)

  pub done_byte : 5 ≤ k → k < 13 → s.done / 2 ^ (8 * (k - 5)) % 256 ≡ get_or (bytes_of s) k 0
  done_byte l h =
      sym (marks_at l
      ∙ get_or-append (bytes 8 s.done) (bytes 8 s.ran) 0 (k - 5) (omega (arith, length_bytes 8 s.done))
      ∙ byte_shift 8 s.done (k - 5) (omega arith))

  pub ran_byte : 13 ≤ k → k < 21 → s.ran / 2 ^ (8 * (k - 13)) % 256 ≡ get_or (bytes_of s) k 0
  ran_byte l h =
      sym (marks_at (omega arith)
      ∙ past (bytes 8 s.done) (bytes 8 s.ran) 8 (k - 5) (length_bytes 8 s.done) (omega arith)
      ∙ ap (λ (j : ℕ). get_or (bytes 8 s.ran) j 0) (let g : k - 5 - 8 ≡ k - 13 = omega arith in g)
      ∙ byte_shift 8 s.ran (k - 13) (omega arith))

-- a list of 21 bytes that are the state's
pub written : (s : State) (out out' : List ℕ) → length out ≡ 21 → out' ≡ table (λ k. get_or (bytes_of s) k 0) 21 → out' ≡ written_of s out
written s out out' l e = rw (written_is s out l) (e ∙ sym (is_table (λ k. get_or (bytes_of s) k 0) 21 0 (bytes_of s) (length_state s) (λ i h. refl)))

pub not_written : (s : State) (out : List ℕ) → (length out ≡ 21 → ⊥) → out ≡ written_of s out
unfolding written_of
not_written s out h = rw (ne_eqb (length out) 21 h)

-- ---- reading
-- of n bytes from a place, those from the k-th on make x: a loop's invariant, which goes down, and its steps
pub record Reading (s : List ℕ) (at n k x : ℕ) : Type 0 where
  pub within : k ≤ n
  pub is : x ≡ number s (at + k) (n - k)
  pub low : x < 2 ^ (8 * (n - k))

pub read_from : (s : List ℕ) (at n : ℕ) → Reading s at n n 0
unfolding number
read_from s at n = let z : n - n ≡ 0 = omega arith in record { within = omega arith; is = rw z; low = rw z (lit< tt) }

-- one byte more fits eight bytes
pub read_room : (s : List ℕ) (at n k x b : ℕ) → Reading s at n k x → 0 < k → n ≤ 8 → b < 256 → x * 256 + b < 2 ^ 64
read_room s at n k x b r p f l =
    let z : x < 2 ^ 56 = lt_of_lt_of_le r.low (pow_mono (let g : 8 * (n - k) ≤ 56 = omega arith in g)) in
    omega arith

pub read_on : (s : List ℕ) (at n k x b : ℕ) → Reading s at n k x → 0 < k → b ≡ get_or s (at + (k - 1)) 0 → b < 256 → Reading s at n (k - 1) (x * 256 + b)
unfolding number
read_on s at n k x b r p e l =
    record {
      within = omega (arith, r.within);
      is = rw more (sym sum);
      low = rw (more, eight) (omega (arith, r.low));
    }
  where
    more : n - (k - 1) ≡ suc (n - k)
    more = omega (arith, r.within)

    place : at + k ≡ at + (k - 1) + 1
    place = omega arith

    sum : get_or s (at + (k - 1)) 0 + 256 * number s (at + (k - 1) + 1) (n - k) ≡ x * 256 + b
    sum = omega (arith, ap (λ (y : ℕ). 256 * y) (r.is ∙ ap (λ (a : ℕ). number s a (n - k)) place))

    eight : 2 ^ (8 * suc (n - k)) ≡ 256 * 2 ^ (8 * (n - k))
    eight = ap (λ (e : ℕ). 2 ^ e) (let g : 8 * suc (n - k) ≡ 8 + 8 * (n - k) = omega arith in g) ∙ pow-add 2 8 (8 * (n - k))

pub read_end : (s : List ℕ) (at n k x : ℕ) → Reading s at n k x → k ≤ 0 → (x ≡ number s at n) × (x < 2 ^ (8 * n))
read_end s at n k x r l =
    let a : at + k ≡ at = omega arith in
    let b : n - k ≡ n = omega arith in
    (r.is ∙ rw (a, b), rw b at r.low)

-- the byte of the first cycle
pub clear_is : (s : List ℕ) (b : ℕ) → b ≡ get_or s 4 0 → ltb b 2 ≡ not (unclear s)
unfolding unclear
clear_is s b e = rw (← e) (go (lt_or_le b 2))
  where
    go : (b < 2) ⊎ (2 ≤ b) → ltb b 2 ≡ not (leb 2 b)
    go (inl l) = rw (lt-ltb b 2 l, lt-leb 2 b l)
    go (inr l) = rw (le-ltb b 2 l, le-leb 2 b l)
