-- Where no links make a cycle, rounds over lists leave the solutions of the equations.
use Rattle.std.specs.Prelude.{◌≡◌, List, ℕ, ◌+◌, ◌*◌, ◌≤◌, ◌<◌, length}
use Rattle.graph.specs.Pass.{limit, at}

-- the lists hold each job's weight c and own number b, which are low enough
pub record Weighted (w v : List ℕ) (n : ℕ) (b c : ℕ → ℕ) (B W : ℕ) : Type 0 where
  pub weights : length w ≡ n
  pub numbers : length v ≡ n
  pub weight : (x : ℕ) → x < n → at w x ≡ c x
  pub own : (x : ℕ) → x < n → at v x ≡ b x
  pub light : (x : ℕ) → x < n → c x ≤ W
  pub low : (x : ℕ) → x < n → b x ≤ B
  pub small : B + n * W ≤ limit
  pub heavy : W ≤ limit
