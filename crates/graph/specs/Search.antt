-- A search, breadth first, for a way from a job back to itself. It follows the links of a job by lists, and only through jobs that are not below the
-- first: those lie on no cycle.
use Rattle.std.specs.Prelude.{◌≡◌, List, ◌⊎◌, ℕ, ◌+◌, ◌≤◌, ◌<◌, eqb, length}
use Rattle.vocabulary.specs.Count.{count}
use Rattle.graph.specs.Graph.{Graph, Way}
use Rattle.graph.specs.Pass.{at}

-- ---- the links by the job that they come from: `heads` has 1 + the last link from each job, `nexts` 1 + the one before from the same job; 0 is none
pub record Threaded (f heads nexts : List ℕ) (k : ℕ) : Type 0 where
  pub head_low : (v : ℕ) → at heads v ≤ k
  pub head_own : (v i : ℕ) → at heads v ≡ i + 1 → at f i ≡ v
  pub head_all : (v i : ℕ) → i < k → at f i ≡ v → i < at heads v
  pub next_low : (e : ℕ) → e < k → at nexts e ≤ e
  pub next_own : (e i : ℕ) → e < k → at nexts e ≡ i + 1 → at f i ≡ at f e
  pub next_all : (e i : ℕ) → e < k → i < e → at f i ≡ at f e → i < at nexts e

-- ---- the search from job x over n jobs: those it saw are marked x + 1 and stand in a queue
pub record InQueue (queue : List ℕ) (tail y : ℕ) : Type 0 where
  pub place : ℕ
  pub low : place < tail
  pub is : at queue place ≡ y

-- y is x, or a way leads there from x
abbrev pub Came : Graph → ℕ → ℕ → Type 0
Came g x y = (y ≡ x) ⊎ Way g x y

pub record Queued (g : Graph) (x : ℕ) (marks queue : List ℕ) (tail : ℕ) : Type 0 where
  pub some : 0 < tail
  pub long₁ : length marks ≡ g.n
  pub long₂ : length queue ≡ g.n
  pub room : tail ≤ count (λ y. eqb (at marks y) (x + 1)) 0 g.n
  pub low : (j : ℕ) → j < tail → at queue j < g.n
  pub came : (j : ℕ) → j < tail → Came g x (at queue j)
  pub placed : (y : ℕ) → at marks y ≡ x + 1 → InQueue queue tail y
  pub recent : (y : ℕ) → at marks y ≤ x + 1

-- what came to be seen stays so, and the queue stands
pub record Grown (x : ℕ) (marks queue : List ℕ) (tail : ℕ) (marks' queue' : List ℕ) (tail' : ℕ) : Type 0 where
  pub seen : (y : ℕ) → at marks y ≡ x + 1 → at marks' y ≡ x + 1
  pub stands : (j : ℕ) → j < tail → at queue' j ≡ at queue j
  pub up : tail ≤ tail'

-- ---- link k leads below x, or to a job that is seen and is not x
abbrev pub Closed : List ℕ → ℕ → List ℕ → ℕ → Type 0
Closed t x marks k = (at t k < x) ⊎ ((at marks (at t k) ≡ x + 1) × (at t k ≡ x → ⊥))
