-- Lists put together from parts: a fact of every entry from every part's, and how long they are.
use Rattle.std.specs.Prelude.{◌≡◌, List, get_or}
use Prim.Native.Nat.{ℕ, ◌<◌}
use Rattle.std.proofs.Math.ListN.{length}

module _ {A : Type 0} where
  -- an entry and its place
  pub record Stands (d : A) (xs : List A) (a : A) : Type 0 where
    pub at : ℕ
    pub low : at < length xs
    pub is : get_or xs at d ≡ a
