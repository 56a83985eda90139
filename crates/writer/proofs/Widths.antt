-- One number: how many bytes it has, and that they are written.
use mathlib.Core.Path.{◌≡◌, refl, ap}
use mathlib.Core.List.{List, [], ◌∷◌, ◌++◌}
use Prim.Native.Nat.{ℕ, suc, ◌+◌, ◌*◌, ◌/◌, ◌%◌, ◌<◌, ◌≤◌}
use native.Mathlib.Omega.{arith}
use lib.ListN.{length, set, length-set, length-append}
use lib.Dec.{ltb}
use borrow.Author.Tests.{ltb-true, ltb-false}
use mathlib.Core.Bool.{Bool, true, false}
use Rattle.numbers.specs.Numbers.{number_bytes}
use Rattle.numbers.specs.Forms.{one_byte, two_bytes, three_bytes}
use Rattle.writer.specs.Format.{bytes_in}
use Rattle.writer.specs.FormatLaws.{bytes_more, bytes_none}
use Rattle.writer.specs.Wrote.{Wrote}

-- ---- the width
pub width_one : (v : ℕ) → v < 128 → length (number_bytes v) ≡ 1
width_one v l = ap length (one_byte v l)

pub width_two : (v : ℕ) → 128 ≤ v → v < 16384 → length (number_bytes v) ≡ 2
width_two v h l = ap length (two_bytes v h l)

pub width_three : (v : ℕ) → 16384 ≤ v → length (number_bytes v) ≡ 3
width_three v h = ap length (three_bytes v h)

pub width_low : (v : ℕ) → length (number_bytes v) ≤ 3
width_low v = by (ltb v 128) refl (ltb v 16384) refl
  where
    by : (a : Bool) → ltb v 128 ≡ a → (b : Bool) → ltb v 16384 ≡ b → length (number_bytes v) ≤ 3
    by true x b y = omega (arith, width_one v (ltb-true v 128 x))
    by false x true y = omega (arith, width_two v (ltb-false v 128 x) (ltb-true v 16384 y))
    by false x false y = omega (arith, width_three v (ltb-false v 16384 y))

pub two_or_more : (v : ℕ) → 128 ≤ v → 2 ≤ length (number_bytes v)
two_or_more v h = by (ltb v 16384) refl
  where
    by : (b : Bool) → ltb v 16384 ≡ b → 2 ≤ length (number_bytes v)
    by true y = omega (arith, width_two v h (ltb-true v 16384 y))
    by false y = omega (arith, width_three v (ltb-false v 16384 y))

-- numbers have at most three bytes each
pub bytes_low : (xs : List ℕ) → length (bytes_in xs) ≤ 3 * length xs
bytes_low [] = rw bytes_none (omega arith)
bytes_low (x ∷ xs) = omega (arith, ap length (bytes_more x xs), length-append (number_bytes x) (bytes_in xs), width_low x, bytes_low xs)

pub three_long : (a b c : ℕ) {x y z : ℕ} → x ≡ length (number_bytes a) → y ≡ length (number_bytes b) → z ≡ length (number_bytes c)
    → x + y + z ≡ length (bytes_in (a ∷ b ∷ c ∷ []))
unfolding bytes_in
three_long a b c p q r =
    omega (
      arith,
      length-append (number_bytes a) (number_bytes b ++ (number_bytes c ++ [])),
      length-append (number_bytes b) (number_bytes c ++ []),
      length-append (number_bytes c) [],
    )

-- there is room for the second byte and the third, where the bytes before them are written
module _ (out : List ℕ) (at v x : ℕ) (l : at + length (number_bytes v) ≤ length out) where
  pub second_room : 128 ≤ v → at + 1 < length (set out at x)
  second_room h = omega (arith, two_or_more v h, length-set out at x)

  pub third_room : (y : ℕ) → 16384 ≤ v → at + 2 < length (set (set out at x) (at + 1) y)
  third_room y h = omega (arith, width_three v h, length-set (set out at x) (at + 1) y, length-set out at x)

-- ---- the bytes
module _ (old : List ℕ) (at v : ℕ) {new : List ℕ} where
  pub put_one : v < 128 → new ≡ set old at v → Wrote old at (number_bytes v) new (at + 1)
  put_one l e = let f = one_byte v l in record { ends = rw f; is = rw f e }

  pub put_two : 128 ≤ v → v < 16384 → new ≡ set (set old at (128 + v % 128)) (at + 1) (v / 128) → Wrote old at (number_bytes v) new (at + 2)
  put_two h l e =
      let f = two_bytes v h l in
      let z : at + 1 ≡ suc at = omega arith in
      record { ends = rw f; is = rw f (rw z at e) }

  pub put_three : 16384 ≤ v → new ≡ set (set (set old at (128 + v % 128)) (at + 1) (128 + v / 128 % 128)) (at + 2) (v / 16384)
      → Wrote old at (number_bytes v) new (at + 3)
  put_three h e =
      let f = three_bytes v h in
      let z : at + 1 ≡ suc at = omega arith in
      let y : at + 2 ≡ suc (suc at) = omega arith in
      record { ends = rw f; is = rw f (rw (z, y) at e) }
