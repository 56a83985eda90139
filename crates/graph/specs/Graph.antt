-- Jobs and links: what it is to lie on a cycle.
use Rattle.std.specs.Prelude.{◌≡◌, Bool, false, ◌&&◌, ◌||◌, ℕ, zero, suc, ◌<◌, eqb, length, get_or, List, Option}
use Rattle.vocabulary.specs.Least.{least, some, lowest as least_of}

-- n jobs, e links: link k leads from job `from k` to job `to k`
pub record Graph : Type 0 where
  pub n : ℕ
  pub e : ℕ
  pub from : ℕ → ℕ
  pub to : ℕ → ℕ

-- the graph of two lists, where a link's ends stand at one place of both
abbrev pub graph_of : List ℕ → List ℕ → ℕ → Graph
graph_of f t n = record { n = n; e = length f; from = λ k. get_or f k 0; to = λ k. get_or t k 0 }

pub record LinksInside (g : Graph) : Type 0 where
  pub starts : (k : ℕ) → k < g.e → g.from k < g.n
  pub ends : (k : ℕ) → k < g.e → g.to k < g.n

-- a way of at least one link from x to a job
pub data Way (g : Graph) (x : ℕ) : ℕ → Type 0 where
  one : {y : ℕ} (k : ℕ) → k < g.e → g.from k ≡ x → g.to k ≡ y → Way g x y
  more : {y z : ℕ} → Way g x y → (k : ℕ) → k < g.e → g.from k ≡ y → g.to k ≡ z → Way g x z

-- the same with at most s links, computed. `Reach` shows that n links are enough
unfoldable pub reach : Graph → ℕ → ℕ → ℕ → Bool
reach g x zero y = false
reach g x (suc s) y = some (λ k. eqb (g.to k) y && (eqb (g.from k) x || reach g x s (g.from k))) g.e

-- job x lies on a cycle
unfoldable pub loops : Graph → ℕ → Bool
loops g x = reach g x g.n x

-- the lowest job that lies on a cycle, n where none does
unfoldable pub lowest : Graph → ℕ
lowest g = least (loops g) g.n

-- the same, none where no job lies on a cycle
unfoldable pub lowest_job : Graph → Option ℕ
lowest_job g = least_of (loops g) g.n
