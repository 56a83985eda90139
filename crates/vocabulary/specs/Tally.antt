-- Events, each with a key and a time, noted in a table by key. A row of three numbers has how many there are, the earliest and the latest time.
use Rattle.std.specs.Prelude.{◌≡◌, List, [], ◌∷◌, ◌⊎◌, ℕ, ◌+◌, ◌≤◌, ◌<◌, eqb, length, get_or, set}
use Rattle.vocabulary.specs.Count.{count}

-- ---- the three numbers of row j
abbrev pub count_at : List (List ℕ) → ℕ → ℕ
count_at rows j = get_or (get_or rows j []) 0 0

abbrev pub first_at : List (List ℕ) → ℕ → ℕ
first_at rows j = get_or (get_or rows j []) 1 0

abbrev pub last_at : List (List ℕ) → ℕ → ℕ
last_at rows j = get_or (get_or rows j []) 2 0

-- ---- one note
-- r is the earlier of a (which counts where c is not 0) and x
pub record Earlier (c a x r : ℕ) : Type 0 where
  pub new : r ≤ x
  pub old : 0 < c → r ≤ a
  pub one : (r ≡ x) ⊎ ((r ≡ a) × (0 < c))

pub record Later (c a x r : ℕ) : Type 0 where
  pub new : x ≤ r
  pub old : 0 < c → a ≤ r
  pub one : (r ≡ x) ⊎ ((r ≡ a) × (0 < c))

-- x is noted under key j
pub record Noted (j x : ℕ) (rows rows' : List (List ℕ)) : Type 0 where
  pub a : ℕ
  pub b : ℕ
  pub put : rows' ≡ set rows j ((count_at rows j + 1) ∷ a ∷ b ∷ [])
  pub early : Earlier (count_at rows j) (first_at rows j) x a
  pub late : Later (count_at rows j) (last_at rows j) x b

-- ---- all events below e are noted. P is what is known of the key and time of every event
pub record Tally (f x : ℕ → ℕ) (P : ℕ → ℕ → Type 0) (n e : ℕ) (rows : List (List ℕ)) : Type 0 where
  pub number : (j : ℕ) → j < n → count_at rows j ≡ count (λ i. eqb (f i) j) 0 e
  pub bounds : (j i : ℕ) → j < n → i < e → f i ≡ j → (first_at rows j ≤ x i) × (x i ≤ last_at rows j)
  pub first : (j : ℕ) → j < n → 0 < count_at rows j → P j (first_at rows j)
  pub last : (j : ℕ) → j < n → 0 < count_at rows j → P j (last_at rows j)
  pub long : length rows ≡ n

-- the table before the first event
pub record Fresh (n : ℕ) (rows : List (List ℕ)) : Type 0 where
  pub zero : (j : ℕ) → j < n → count_at rows j ≡ 0
  pub long : length rows ≡ n
