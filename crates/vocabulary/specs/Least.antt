-- The least number below n that passes a test, or n where none does.
use Rattle.std.specs.Prelude.{◌≡◌, Bool, true, false, not, ℕ, zero, suc, ◌≤◌, ◌<◌, ltb, Option, Some, None}
use Rattle.vocabulary.specs.Test.{pick}

abbrev pub past : Bool → ℕ → ℕ
past true r = r
past false r = suc r

-- from 0 on, n times: stay where the test passes, else go on by one
unfoldable pub least : (ℕ → Bool) → ℕ → ℕ
least f zero = 0
least f (suc n) = let r : ℕ = least f n in past (f r) r

-- what being that number means. Two such numbers are equal (`least_only`)
pub record Least (f : ℕ → Bool) (n r : ℕ) : Type 0 where
  pub within : r ≤ n
  pub before : (k : ℕ) → k < r → f k ≡ false
  pub found : r < n → f r ≡ true

-- one below n passes
abbrev pub some : (ℕ → Bool) → ℕ → Bool
some f n = ltb (least f n) n

-- that number, if one below n passes
unfoldable pub lowest : (ℕ → Bool) → ℕ → Option ℕ
lowest f n = pick (some f n) (Some (least f n)) None

-- a search from 0 up to n that has come to i: what a loop's invariant says, and its four steps
pub record Seeking (f : ℕ → Bool) (n i : ℕ) : Type 0 where
  pub within : i ≤ n
  pub before : (k : ℕ) → k < i → f k ≡ false

-- ---- every one below n passes
unfoldable pub all : (ℕ → Bool) → ℕ → Bool
all f n = not (some (λ k. not (f k)) n)

-- a walk from 0 up to n on which all have passed so far: a loop's invariant, and its steps
pub record Passing (f : ℕ → Bool) (n i : ℕ) : Type 0 where
  pub within : i ≤ n
  pub before : (k : ℕ) → k < i → f k ≡ true

-- ---- the greatest number below n that passes a test, or 0 where none does
unfoldable pub greatest : (ℕ → Bool) → ℕ → ℕ
greatest f zero = 0
greatest f (suc n) = let r : ℕ = greatest f n in pick (f n) n r
