-- Laws of the searches in specs/Searches.antt.
use Rattle.std.specs.Prelude.{◌≡◌, refl, Bool, true, false, ℕ, ◌≤◌, ◌<◌, Option, Some, None}
use Rattle.std.proofs.Common.{ap, arith}
use Rattle.vocabulary.specs.Test.{pick}
use Rattle.vocabulary.specs.Least.{least, some, lowest, Seeking}
use Rattle.vocabulary.proofs.Least.{hit, some_yes, some_at, some_lt, none, some_least, none_least}
use Rattle.judge.specs.Searches.{lowest_with}

-- A search that finds such a number, and one that comes to the end.
module _ (f : ℕ → Bool) (g : ℕ → ℕ) (n i : ℕ) (s : Seeking f n i) where
  pub with_found : {j : ℕ} → i < n → f i ≡ true → j ≡ g i → Some (i, j) ≡ lowest_with f g n
  unfolding lowest_with
  with_found l e q = let z : i ≡ least f n = hit f n i s e in rw (some_yes f n i l e, ← z, q)

  pub with_nowhere : n ≤ i → None ≡ lowest_with f g n
  unfolding lowest_with
  with_nowhere l = rw (none f n λ k h. s.before k (omega arith))

abbrev pair : ℕ → ℕ → Option (ℕ × ℕ)
pair i j = Some (i, j)

abbrev first : Option (ℕ × ℕ) → ℕ
first (Some w) = w.0
first None = 0

abbrev second : Option (ℕ × ℕ) → ℕ
second (Some w) = w.1
second None = 0

-- And back: what an answer says.
module _ (f : ℕ → Bool) (g : ℕ → ℕ) (n : ℕ) where
  pub with_some : {i j : ℕ} → Some (i, j) ≡ lowest_with f g n → (i ≡ least f n) × (i < n) × (f i ≡ true) × (j ≡ g i)
  unfolding lowest_with
  with_some {i} {j} e = by (some f n) refl e
    where
      by : (b : Bool) → some f n ≡ b → pair i j ≡ pick b (pair (least f n) (g (least f n))) None
          → (i ≡ least f n) × (i < n) × (f i ≡ true) × (j ≡ g i)
      by true p q =
          let z : i ≡ least f n = ap first q in
          let y : j ≡ g (least f n) = ap second q in
          let w = some_at f n p in
          (z, rw z w.0, rw z w.1, rw z y)
      by false p q = let z : ◌≡◌ {A = ℕ} 0 1 = cc q in absurd (omega arith)

  pub with_none : None ≡ lowest_with f g n → some f n ≡ false
  unfolding lowest_with
  with_none e = by (some f n) refl e
    where
      by : (b : Bool) → some f n ≡ b → None ≡ pick b (pair (least f n) (g (least f n))) None → some f n ≡ false
      by true p q = let z : ◌≡◌ {A = ℕ} 0 1 = cc q in absurd (omega arith)
      by false p q = p

-- The test `some` by an answer.
pub lowest_yes : (f : ℕ → Bool) (n : ℕ) {i : ℕ} → Some i ≡ lowest f n → some f n ≡ true
lowest_yes f n {i} e = let w = some_least f n i e in some_lt f n i w.0 w.1

pub lowest_no : (f : ℕ → Bool) (n : ℕ) → None ≡ lowest f n → some f n ≡ false
lowest_no f n e = (none_least f n e).1
