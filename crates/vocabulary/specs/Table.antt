-- A list by its entries, and a loop that writes it.
use Rattle.std.specs.Prelude.{◌≡◌, Bool, get_or}
use mathlib.Core.List.{List, [], ◌∷◌, ◌++◌}
use Prim.Native.Nat.{ℕ, zero, suc, ◌≤◌, ◌<◌}
use Rattle.std.proofs.Math.ListN.{length}
use Rattle.vocabulary.specs.Test.{pick}

module _ {A : Type 0} where
  -- f 0, f 1, .., f (n - 1)
  unfoldable pub table : (ℕ → A) → ℕ → List A
  table f zero = []
  table f (suc n) = f 0 ∷ table (λ i. f (suc i)) n

  -- a loop that writes at each i below n what P asks there has come to i
  pub record Filling (P : ℕ → A → Type 0) (n i : ℕ) (d : A) (xs : List A) : Type 0 where
    pub within : i ≤ n
    pub long : length xs ≡ n
    pub before : (j : ℕ) → j < i → P j (get_or xs j d)

  -- where P asks for one value
  abbrev pub is : (ℕ → A) → ℕ → A → Type 0
  is f j x = x ≡ f j

  -- f 0 ++ f 1 ++ .. ++ f (n - 1)
  unfoldable pub join : (ℕ → List A) → ℕ → List A
  join f zero = []
  join f (suc n) = join f n ++ f n

  -- f i for each i below n that passes
  unfoldable pub gather : (ℕ → A) → (ℕ → Bool) → ℕ → List A
  gather f p zero = []
  gather f p (suc n) = gather f p n ++ pick (p n) (f n ∷ []) []
