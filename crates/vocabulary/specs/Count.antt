-- How many ticks of a window pass a test.
use Rattle.std.specs.Prelude.{◌≡◌, Bool, true, ℕ, zero, suc, ◌+◌, ◌≤◌}
use Rattle.vocabulary.specs.Test.{bit}

-- how many of the n ticks from a on pass f
unfoldable pub count : (ℕ → Bool) → ℕ → ℕ → ℕ
count f a zero = 0
count f a (suc n) = count f a n + bit (f (a + n))

-- a count over n ticks from a on that has come to i, at k: a loop's invariant, and its four steps
pub record Counting (f : ℕ → Bool) (a n i k : ℕ) : Type 0 where
  pub within : i ≤ n
  pub is : k ≡ count f a i
  pub few : k ≤ i

-- a tick that passes
pub record Tick (f : ℕ → Bool) : Type 0 where
  pub at : ℕ
  pub is : f at ≡ true
