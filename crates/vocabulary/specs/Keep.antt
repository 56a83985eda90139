-- Lists that a walk writes from the front on: what stands there stays, and what is not written yet is 0.
use Rattle.std.specs.Prelude.{◌≡◌, List, ℕ, ◌≤◌, ◌<◌, length, get_or}

-- ys is as long as xs, and has its entries below i
pub record SamePrefix (xs ys : List ℕ) (i : ℕ) : Type 0 where
  pub long : length ys ≡ length xs
  pub below : (j : ℕ) → j < i → get_or ys j 0 ≡ get_or xs j 0

-- of so many entries those from i on are 0
pub record Row (xs : List ℕ) (size i : ℕ) : Type 0 where
  pub long : length xs ≡ size
  pub beyond : (j : ℕ) → i ≤ j → get_or xs j 0 ≡ 0
