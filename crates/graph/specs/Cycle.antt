-- Links in two lists, and numbers that show that no job lies on a cycle.
use Rattle.std.specs.Prelude.{◌≡◌, List, ℕ, ◌<◌, length}
use Rattle.graph.specs.Pass.{at}

-- link k leads from job `at f k` to job `at t k`, both below n
pub record Between (f t : List ℕ) (n : ℕ) : Type 0 where
  pub long : length t ≡ length f
  pub starts : (k : ℕ) → k < length f → at f k < n
  pub ends : (k : ℕ) → k < length f → at t k < n

-- the numbers fall along the first k links
pub record Falling (f t v : List ℕ) (k : ℕ) : Type 0 where
  pub each : (j : ℕ) → j < k → at v (at t j) < at v (at f j)
