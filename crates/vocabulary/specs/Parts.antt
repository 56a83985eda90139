-- A list as a part of another, from a place on.
use Rattle.std.specs.Prelude.{◌≡◌, List, length, get_or}
use Prim.Native.Nat.{ℕ, ◌+◌, ◌≤◌, ◌<◌}

-- xs stands in s from place `at` on
pub record PartAt (s : List ℕ) (at : ℕ) (xs : List ℕ) : Type 0 where
  pub within : at + length xs ≤ length s
  pub entry : (j : ℕ) → j < length xs → get_or s (at + j) 0 ≡ get_or xs j 0
