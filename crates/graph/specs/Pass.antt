-- Rounds in place over a list of links, and what they leave.
use Rattle.std.specs.Prelude.{◌≡◌, Bool, false, List, ℕ, ◌+◌, ◌-◌, ◌≤◌, ◌<◌, min, length, get_or}
use Rattle.vocabulary.specs.Test.{pick}
use Rattle.graph.specs.Settle.{Over}
use Rattle.graph.specs.Graph.{graph_of}
use Rattle.graph.specs.Longest.{rounds}

-- above every number of a set without a cycle
abbrev pub limit : ℕ
limit = 16777216

abbrev pub at : List ℕ → ℕ → ℕ
at xs x = get_or xs x 0

-- links between jobs, a weight and a number per job
pub record Lined (f t w v : List ℕ) : Type 0 where
  pub long : length t ≡ length f
  pub weights : length w ≡ length v
  pub starts : (k : ℕ) → k < length f → at f k < length v
  pub ends : (k : ℕ) → k < length f → at t k < length v
  pub light : (x : ℕ) → x < length v → at w x ≤ limit
  pub low : (x : ℕ) → x < length v → at v x ≤ limit

-- ---- one link
pub record Raised (w : List ℕ) (a b : ℕ) (v v' : List ℕ) (r : Bool) : Type 0 where
  pub long : length v' ≡ length v
  pub grow : (x : ℕ) → at v x ≤ at v' x
  pub got : min (at v a + at w a) limit ≤ at v' b
  pub low : (x : ℕ) → at v x ≤ limit → at v' x ≤ limit
  pub under : (s : ℕ → ℕ) → at v a ≤ s a → s a + at w a ≤ s b → (x : ℕ) → at v x ≤ s x → at v' x ≤ s x
  pub still : r ≡ false → v' ≡ v

-- ---- all links once, from the first on or from the last back
-- where link j of n stands in such a sweep, and which link stands there
abbrev pub turn : Bool → ℕ → ℕ → ℕ
turn back n j = pick back (n - 1 - j) j

-- k links are passed
pub record PassingLinks (back : Bool) (f t w v v' : List ℕ) (k : ℕ) (r : Bool) : Type 0 where
  pub within : k ≤ length f
  pub long : length v' ≡ length v
  pub low : (x : ℕ) → x < length v → at v' x ≤ limit
  pub grow : (x : ℕ) → at v x ≤ at v' x
  pub got : (j : ℕ) → j < length f → turn back (length f) j < k → min (at v (at f j) + at w (at f j)) limit ≤ at v' (at t j)
  pub under : (s : ℕ → ℕ) → ((j : ℕ) → j < length f → s (at f j) + at w (at f j) ≤ s (at t j)) → ((x : ℕ) → x < length v → at v x ≤ s x) → (x : ℕ)
      → x < length v → at v' x ≤ s x
  pub still : r ≡ false → v' ≡ v

abbrev pub Passed : Bool → List ℕ → List ℕ → List ℕ → List ℕ → List ℕ → Bool → Type 0
Passed back f t w v v' r = PassingLinks back f t w v v' (length f) r

-- ---- rounds
-- the numbers stand for round s: at least what s rounds give (up to the limit), at most any family that nothing breaks
pub record Settling (f t w v v' : List ℕ) (s : ℕ) : Type 0 where
  pub long : length v' ≡ length v
  pub low : (x : ℕ) → x < length v → at v' x ≤ limit
  pub grow : (x : ℕ) → at v x ≤ at v' x
  pub reached : (x : ℕ) → x < length v → min (rounds (graph_of f t (length v)) (at v) (at w) s x) limit ≤ at v' x
  pub under : (z : ℕ → ℕ) → Over (graph_of f t (length v)) (at v) (at w) z → (x : ℕ) → x < length v → at v' x ≤ z x

abbrev pub Settled : List ℕ → List ℕ → List ℕ → List ℕ → List ℕ → Type 0
Settled f t w v v' = Settling f t w v v' (length v)
