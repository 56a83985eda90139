-- Families of numbers over a graph's equations.
use Rattle.std.specs.Prelude.{ℕ, ◌+◌, ◌≤◌, ◌<◌}
use Rattle.graph.specs.Graph.{Graph}

-- any family that no link and no own number breaks lies over each round
pub record Over (g : Graph) (b w v : ℕ → ℕ) : Type 0 where
  pub own : (x : ℕ) → x < g.n → b x ≤ v x
  pub link : (k : ℕ) → k < g.e → v (g.from k) + w (g.from k) ≤ v (g.to k)
