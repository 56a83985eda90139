-- A row of records, each a short list of numbers, by its columns.
use Rattle.std.specs.Prelude.{List, [], ◌∷◌, ℕ, get_or}

-- number k of each record
unfoldable pub column : ℕ → List (List ℕ) → List ℕ
column k [] = []
column k (r ∷ rs) = get_or r k 0 ∷ column k rs
