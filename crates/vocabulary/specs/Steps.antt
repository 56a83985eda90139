-- A loop that writes x, x + d, x + 2d, .. into a list from a place on.
use Rattle.std.specs.Prelude.{◌≡◌, List, ℕ, ◌+◌, ◌*◌, ◌≤◌, ◌<◌, length, get_or}

-- c of them stand from place e on, and what stood before e stands
pub record StepsPut (e c x d : ℕ) (v v' : List ℕ) : Type 0 where
  pub long : length v' ≡ length v
  pub there : (k : ℕ) → k < e → get_or v' k 0 ≡ get_or v k 0
  pub here : (k : ℕ) → k < c → get_or v' (e + k) 0 ≡ x + k * d

-- n of c are written, and a comes next
pub record Stepping (e c x d : ℕ) (v v' : List ℕ) (n a : ℕ) : Type 0 where
  pub within : n ≤ c
  pub next : a ≡ x + n * d
  pub done : StepsPut e n x d v v'
