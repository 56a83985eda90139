-- What the parts of the writer ask of the tables that they are lent.
use Rattle.std.specs.Prelude.{◌≡◌, List, ℕ, ◌+◌, ◌<◌, ◌≤◌, length, get_or, map}
use Rattle.vocabulary.specs.Table.{table}
use Rattle.kinds.specs.Tasks.{Patterns, from_task, to_task, pair_count, pairs_before}
use Rattle.writer.specs.Format.{bytes_in}

-- n numbers of a table, from a place on
abbrev pub part : List ℕ → ℕ → ℕ → List ℕ
part xs start n = table (λ j. get_or xs (start + j) 0) n

module _ {T : Type 0} (converts : T → ℕ → Type 0) where
  -- a conversion to numbers gives those of a function
  abbrev pub Gives : (T → ℕ) → Type 0
  Gives value = (x : T) (v : ℕ) → converts x v → v ≡ value x

  -- what is converted gives numbers of at most three bytes, with room for them
  pub record NumbersLent (numbers : List T) (at room : ℕ) : Type 0 where
    pub value : T → ℕ
    pub gives : Gives value
    pub low : (i : ℕ) → i < length numbers → get_or (map value numbers) i 0 < 2097152
    pub fits : at + length (bytes_in (map value numbers)) ≤ room

  -- how many bytes the numbers have
  abbrev pub NumbersLong : List T → ℕ → Type 0
  NumbersLong numbers n = (value : T → ℕ) → Gives value → n ≡ length (bytes_in (map value numbers))

-- patterns with tasks of at most three bytes, and pairs within the table
pub record PatternsLent (v : Patterns) : Type 0 where
  pub few : v.count ≤ 64
  pub from : (k : ℕ) → k < v.count → from_task v k < 2097152
  pub to : (k : ℕ) → k < v.count → to_task v k < 2097152
  pub room : (k : ℕ) → k < v.count → pairs_before v k + pair_count v k ≤ 1024
