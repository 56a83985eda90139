-- The first n entries of a list, and n entries from a place on.
use Rattle.std.specs.Prelude.{◌≡◌, List, ℕ, ◌+◌, ◌≤◌, ◌<◌, length, take, drop, get_or}
use Rattle.std.proofs.Common.{◌∙◌, arith, length-take, length-drop, get_or-take, get_or-drop}
use Rattle.vocabulary.specs.Table.{table}
use Rattle.vocabulary.proofs.Table.{is_table}

module _ {A : Type 0} where
  pub taken : (n m : ℕ) (xs : List A) → length xs ≡ m → n ≤ m → length (take n xs) ≡ n
  taken n m xs e l = omega (arith, length-take n xs)

  -- entries that are known make the prefix a table
  pub taken_table : (f : ℕ → A) (n m : ℕ) (d : A) (xs : List A) → length xs ≡ m → n ≤ m → ((i : ℕ) → i < n → get_or xs i d ≡ f i) → take n xs ≡ table f n
  taken_table f n m d xs e l h = is_table f n d (take n xs) (taken n m xs e l) (λ i li. get_or-take n xs i d li ∙ h i li)

  pub part_length : (xs : List A) (at n : ℕ) → at + n ≤ length xs → length (take n (drop at xs)) ≡ n
  part_length xs at n l = omega (arith, length-take n (drop at xs), length-drop at xs)

  pub part_entry : (d : A) (xs : List A) (at n q : ℕ) → q < n → get_or (take n (drop at xs)) q d ≡ get_or xs (at + q) d
  part_entry d xs at n q l = get_or-take n (drop at xs) q d l ∙ get_or-drop at xs q d
