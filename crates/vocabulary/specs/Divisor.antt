-- The greatest common divisor of two numbers: what it means, Euclid's method and how few steps it takes, and the least common multiple by it.
use Rattle.std.specs.Prelude.{◌≡◌, ℕ, ◌+◌, ◌*◌, ◌≤◌}
use Rattle.std.specs.Int.{◌∣◌}

-- What it means to be the greatest common divisor: it divides both numbers, and every divisor of both divides it.
pub record GreatestDivisor (a b g : ℕ) : Type 0 where
  pub left : g ∣ a
  pub right : g ∣ b
  pub divides : (q : ℕ) → q ∣ a → q ∣ b → q ∣ g

-- ---- Euclid's method, for a and b, that has come to x and y: a loop's invariant, and its steps
-- The divisor of x and y is that of a and b, and x times t and y times s make a.
pub record Euclid (a b x y t s : ℕ) : Type 0 where
  pub same : (g : ℕ) → GreatestDivisor x y g → GreatestDivisor a b g
  pub falls : y ≤ x
  pub whole : x * t + y * s ≡ a
