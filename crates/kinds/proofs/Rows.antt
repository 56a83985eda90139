-- The tables as rows of tasks, headings and pairs: what a row keeps where one more is written at its end.
use mathlib.Core.Path.{◌≡◌}
use mathlib.Core.List.{List}
use Prim.Native.Nat.{ℕ, ◌+◌, ◌*◌, ◌<◌, ◌≤◌}
use native.Mathlib.Omega.{arith}
use lib.ListN.{length, get_or, set, length-set}
use Rattle.vocabulary.specs.Keep.{SamePrefix, Row}
use Rattle.vocabulary.proofs.Keep.{kept_less, kept_set, kept_at, row_on_lem}
use Rattle.kinds.specs.declared.Task.{Task}
use Rattle.kinds.specs.Tasks.{task_of, task_at, put_task, put_heading, put_pair, first_in, second_in}

-- What is written next to the last is the next.
next : (xs ys : List ℕ) (i x : ℕ) {k : ℕ} → i + 1 ≤ k → SamePrefix (set xs i x) ys k → SamePrefix xs ys i
next xs ys i x {k} l p = kept_set xs ys i x (kept_less (set xs i x) ys k (i + 1) l p)

there : (xs ys : List ℕ) (i x : ℕ) {k : ℕ} → i < length xs → i + 1 ≤ k → SamePrefix (set xs i x) ys k → get_or ys i 0 ≡ x
there xs ys i x {k} l h p = kept_at xs ys i x l (kept_less (set xs i x) ys k (i + 1) h p)

pub row_less : (xs : List ℕ) (size i k : ℕ) → i ≤ k → Row xs size i → Row xs size k
row_less xs size i k l r = record { long = r.long; beyond = λ j h. r.beyond j (omega arith) }

row_next : (xs : List ℕ) (size i x : ℕ) {k : ℕ} → i ≤ k → Row xs size i → Row (set xs k x) size (k + 1)
row_next xs size i x {k} l r = row_on_lem xs size k x (row_less xs size i k l r)

-- ---- tasks
task_same : {t u : Task} → u.period ≡ t.period → u.running ≡ t.running → u.offset ≡ t.offset → u.deadline ≡ t.deadline → u ≡ t
task_same p q r s = four p q r s
  where
    four : {a b c d a' b' c' d' : ℕ} → a ≡ a' → b ≡ b' → c ≡ c' → d ≡ d' → task_of a b c d ≡ task_of a' b' c' d'
    four p q r s = rw (p, q, r, s)

module _ (xs : List ℕ) (i : ℕ) (t : Task) where
  abbrev x₁ : List ℕ
  x₁ = set xs (4 * i) t.period

  abbrev x₂ : List ℕ
  x₂ = set x₁ (4 * i + 1) t.running

  abbrev x₃ : List ℕ
  x₃ = set x₂ (4 * i + 2) t.offset

  pub task_row : (size : ℕ) → Row xs size (4 * i) → Row (put_task xs i t) size (4 * (i + 1))
  task_row size r =
      let r₁ : Row x₁ size (4 * i + 1) = row_on_lem xs size (4 * i) t.period r in
      let r₂ : Row x₂ size (4 * i + 1 + 1) = row_on_lem x₁ size (4 * i + 1) t.running r₁ in
      let r₃ : Row x₃ size (4 * i + 2 + 1) = row_next x₂ size (4 * i + 1 + 1) t.offset {k = 4 * i + 2} (omega arith) r₂ in
      let r₄ : Row (put_task xs i t) size (4 * i + 3 + 1) = row_next x₃ size (4 * i + 2 + 1) t.deadline {k = 4 * i + 3} (omega arith) r₃ in
      row_less (put_task xs i t) size (4 * i + 3 + 1) (4 * (i + 1)) (omega arith) r₄

  module _ (ys : List ℕ) (p : SamePrefix (put_task xs i t) ys (4 * (i + 1))) where
    k₃ : SamePrefix x₃ ys (4 * i + 3)
    k₃ = next x₃ ys (4 * i + 3) t.deadline {k = 4 * (i + 1)} (omega arith) p

    k₂ : SamePrefix x₂ ys (4 * i + 2)
    k₂ = next x₂ ys (4 * i + 2) t.offset {k = 4 * i + 3} (omega arith) k₃

    k₁ : SamePrefix x₁ ys (4 * i + 1)
    k₁ = next x₁ ys (4 * i + 1) t.running {k = 4 * i + 2} (omega arith) k₂

    pub task_kept : SamePrefix xs ys (4 * i)
    task_kept = next xs ys (4 * i) t.period {k = 4 * i + 1} (omega arith) k₁

    pub task_there : 4 * i + 3 < length xs → task_at ys i ≡ t
    task_there l =
        let l₁ : length x₁ ≡ length xs = length-set xs (4 * i) t.period in
        let l₂ : length x₂ ≡ length x₁ = length-set x₁ (4 * i + 1) t.running in
        let l₃ : length x₃ ≡ length x₂ = length-set x₂ (4 * i + 2) t.offset in
        task_same
        (there xs ys (4 * i) t.period {k = 4 * i + 1} (omega arith) (omega arith) k₁)
        (there x₁ ys (4 * i + 1) t.running {k = 4 * i + 2} (omega arith) (omega arith) k₂)
        (there x₂ ys (4 * i + 2) t.offset {k = 4 * i + 3} (omega arith) (omega arith) k₃)
        (there x₃ ys (4 * i + 3) t.deadline {k = 4 * (i + 1)} (omega arith) (omega arith) p)

-- a task of the row where it was kept
pub task_below : (xs ys : List ℕ) (n j : ℕ) → SamePrefix xs ys (4 * n) → j < n → task_at ys j ≡ task_at xs j
task_below xs ys n j p l = task_same (p.below (4 * j) (omega arith)) (p.below (4 * j + 1) (omega arith)) (p.below (4 * j + 2) (omega arith)) (p.below (4 * j + 3) (omega arith))

-- ---- headings
module _ (hs : List ℕ) (k x y n : ℕ) where
  abbrev h₁ : List ℕ
  h₁ = set hs (3 * k) x

  abbrev h₂ : List ℕ
  h₂ = set h₁ (3 * k + 1) y

  pub heading_row : (size : ℕ) → Row hs size (3 * k) → Row (put_heading hs k x y n) size (3 * (k + 1))
  heading_row size r =
      let r₁ : Row h₁ size (3 * k + 1) = row_on_lem hs size (3 * k) x r in
      let r₂ : Row h₂ size (3 * k + 1 + 1) = row_on_lem h₁ size (3 * k + 1) y r₁ in
      let r₃ : Row (put_heading hs k x y n) size (3 * k + 2 + 1) = row_next h₂ size (3 * k + 1 + 1) n {k = 3 * k + 2} (omega arith) r₂ in
      row_less (put_heading hs k x y n) size (3 * k + 2 + 1) (3 * (k + 1)) (omega arith) r₃

  pub record HeadingThere (ys : List ℕ) : Type 0 where
    pub from : get_or ys (3 * k) 0 ≡ x
    pub to : get_or ys (3 * k + 1) 0 ≡ y
    pub length : get_or ys (3 * k + 2) 0 ≡ n

  module _ (ys : List ℕ) (p : SamePrefix (put_heading hs k x y n) ys (3 * (k + 1))) where
    kept₂ : SamePrefix h₂ ys (3 * k + 2)
    kept₂ = next h₂ ys (3 * k + 2) n {k = 3 * (k + 1)} (omega arith) p

    kept₁ : SamePrefix h₁ ys (3 * k + 1)
    kept₁ = next h₁ ys (3 * k + 1) y {k = 3 * k + 2} (omega arith) kept₂

    pub heading_kept : SamePrefix hs ys (3 * k)
    heading_kept = next hs ys (3 * k) x {k = 3 * k + 1} (omega arith) kept₁

    pub heading_there : 3 * k + 2 < length hs → HeadingThere ys
    heading_there l =
        let l₁ : length h₁ ≡ length hs = length-set hs (3 * k) x in
        let l₂ : length h₂ ≡ length h₁ = length-set h₁ (3 * k + 1) y in
        record {
          from = there hs ys (3 * k) x {k = 3 * k + 1} (omega arith) (omega arith) kept₁;
          to = there h₁ ys (3 * k + 1) y {k = 3 * k + 2} (omega arith) (omega arith) kept₂;
          length = there h₂ ys (3 * k + 2) n {k = 3 * (k + 1)} (omega arith) (omega arith) p;
        }

-- ---- pairs
module _ (ps : List ℕ) (x a b : ℕ) where
  abbrev p₁ : List ℕ
  p₁ = set ps (2 * x) a

  pub pair_row : (size : ℕ) → Row ps size (2 * x) → Row (put_pair ps x a b) size (2 * (x + 1))
  pair_row size r =
      let r₁ : Row p₁ size (2 * x + 1) = row_on_lem ps size (2 * x) a r in
      row_less (put_pair ps x a b) size (2 * x + 1 + 1) (2 * (x + 1)) (omega arith) (row_on_lem p₁ size (2 * x + 1) b r₁)

  module _ (ys : List ℕ) (p : SamePrefix (put_pair ps x a b) ys (2 * (x + 1))) where
    half : SamePrefix p₁ ys (2 * x + 1)
    half = next p₁ ys (2 * x + 1) b {k = 2 * (x + 1)} (omega arith) p

    pub pair_kept : SamePrefix ps ys (2 * x)
    pair_kept = next ps ys (2 * x) a {k = 2 * x + 1} (omega arith) half

    pub pair_there : 2 * x + 1 < length ps → (first_in ys x ≡ a) × (second_in ys x ≡ b)
    pair_there l =
        let l₁ : length p₁ ≡ length ps = length-set ps (2 * x) a in
        (there ps ys (2 * x) a {k = 2 * x + 1} (omega arith) (omega arith) half, there p₁ ys (2 * x + 1) b {k = 2 * (x + 1)} (omega arith) (omega arith) p)
