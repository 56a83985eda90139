-- Marks as the bits of a number: bit i of x, and what the operations on words do to it.
use Rattle.std.specs.Prelude.{◌≡◌, Bool, ℕ, zero, suc, ◌+◌, ◌*◌, ◌/◌, ◌%◌, ◌^◌, ◌≤◌, eqb}
use Rattle.vocabulary.specs.Test.{bit}

-- bit i of x
unfoldable pub has : ℕ → ℕ → Bool
has x i = eqb (x / 2 ^ i % 2) 1

-- ---- a word made of marks, lowest first
unfoldable pub pack : (ℕ → Bool) → ℕ → ℕ
pack f zero = 0
pack f (suc n) = pack f n + bit (f n) * 2 ^ n

-- a word of n marks that has come to mark i, at x: a loop's invariant, and its steps
pub record Packing (f : ℕ → Bool) (n i x : ℕ) : Type 0 where
  pub within : i ≤ n
  pub is : x ≡ pack f i
