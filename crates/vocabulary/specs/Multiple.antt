-- The least common multiple of two numbers and of n numbers. It is found by trying multiples; its laws say what it means.
use Rattle.std.specs.Prelude.{Bool, ℕ, zero, suc, ◌+◌, ◌*◌, ◌%◌, ◌<◌, eqb}
use Rattle.std.specs.Int.{◌∣◌}
use Rattle.vocabulary.specs.Least.{least}

-- a · (k + 1) is a multiple of b
abbrev pub meets : ℕ → ℕ → ℕ → Bool
meets a b k = eqb (a * (k + 1) % b) 0

-- The least common multiple of a and b: the first of a, 2a, .., ba that is a multiple of b.
unfoldable pub lcm : ℕ → ℕ → ℕ
lcm a b = a * (least (meets a b) b + 1)

-- what it means to be the least common multiple: it is one, and divides every other
pub record Common (a b m : ℕ) : Type 0 where
  pub some : 0 < m
  pub left : a ∣ m
  pub right : b ∣ m
  pub divides : (q : ℕ) → a ∣ q → b ∣ q → m ∣ q

-- ---- the least common multiple of T 0, .., T (n - 1)
unfoldable pub lcm_of : (ℕ → ℕ) → ℕ → ℕ
lcm_of T zero = 1
lcm_of T (suc n) = lcm (lcm_of T n) (T n)
