-- Laws of the definitions in specs/Column.antt.
use Rattle.std.specs.Prelude.{◌≡◌, refl, List, [], ◌∷◌, ℕ, zero, suc, length, get_or, set}
use Rattle.std.proofs.Common.{sym, ap, ◌∙◌}
use Rattle.graph.specs.Column.{column}

pub column_long : (k : ℕ) (rows : List (List ℕ)) → length (column k rows) ≡ length rows
unfolding column
column_long k [] = refl
column_long k (r ∷ rs) = ap suc (column_long k rs)

pub column_at : (k : ℕ) (rows : List (List ℕ)) (i : ℕ) → get_or (column k rows) i 0 ≡ get_or (get_or rows i []) k 0
unfolding column
column_at k [] i = refl
column_at k (r ∷ rs) zero = refl
column_at k (r ∷ rs) (suc i) = column_at k rs i

pub column_set : (k : ℕ) (rows : List (List ℕ)) (i : ℕ) (r : List ℕ) → column k (set rows i r) ≡ set (column k rows) i (get_or r k 0)
unfolding column
column_set k [] i r = refl
column_set k (x ∷ xs) zero r = refl
column_set k (x ∷ xs) (suc i) r = ap (λ (ys : List ℕ). get_or x k 0 ∷ ys) (column_set k xs i r)

set_back : (xs : List ℕ) (i : ℕ) → set xs i (get_or xs i 0) ≡ xs
set_back [] i = refl
set_back (x ∷ xs) zero = refl
set_back (x ∷ xs) (suc i) = ap (λ (ys : List ℕ). x ∷ ys) (set_back xs i)

-- a record that is written over another with the same number in column k leaves the column
pub column_kept : (k : ℕ) (rows : List (List ℕ)) (i : ℕ) (r : List ℕ) → get_or r k 0 ≡ get_or (get_or rows i []) k 0 → column k (set rows i r) ≡ column k rows
column_kept k rows i r e =
    column_set k rows i r ∙ ap (set (column k rows) i) (e ∙ sym (column_at k rows i)) ∙ set_back (column k rows) i
