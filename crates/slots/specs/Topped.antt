-- Rule 12 by one bound of all slots.
use Rattle.std.specs.Prelude.{List, ℕ, ◌<◌, ◌≤◌, get_or, length}

-- No slot below e is above r.
pub record Topped (slots : List ℕ) (e r : ℕ) : Type 0 where
  pub within : e ≤ length slots
  pub each : (k : ℕ) → k < e → get_or slots k 0 ≤ r
