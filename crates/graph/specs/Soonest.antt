-- Adjusted deadlines, in integers: the least of a job's own deadline and each successor's adjusted deadline less its running time.
use Rattle.std.specs.Prelude.{Bool, ℕ, zero, suc, eqb, ℤ, pos, ◌-ℤ◌}
use Rattle.std.specs.Int.Signed.{le_z}
use Rattle.vocabulary.specs.Test.{pick}
use Rattle.graph.specs.Graph.{Graph}

abbrev pub min_z : ℤ → ℤ → ℤ
min_z a b = pick (le_z a b) a b

-- the least of b and of f k for each k below n that counts
unfoldable pub fewest : (ℕ → Bool) → (ℕ → ℤ) → ℤ → ℕ → ℤ
fewest p f b zero = b
fewest p f b (suc n) = pick (p n) (min_z (fewest p f b n) (f n)) (fewest p f b n)

-- the right side of the equation: v the adjusted deadlines, d the own ones, c the running times
unfoldable pub due : Graph → (ℕ → ℕ) → (ℕ → ℕ) → (ℕ → ℤ) → ℕ → ℤ
due g d c v x = fewest (λ k. eqb (g.from k) x) (λ k. v (g.to k) -ℤ pos (c (g.to k))) (pos (d x)) g.e

-- computed, n rounds
unfoldable pub soonest : Graph → (ℕ → ℕ) → (ℕ → ℕ) → ℕ → ℕ → ℤ
soonest g d c zero x = pos (d x)
soonest g d c (suc s) x = due g d c (soonest g d c s) x
