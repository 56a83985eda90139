-- A number per job that is the greatest of the job's own and of what its predecessors bring: its equation.
use Rattle.std.specs.Prelude.{◌≡◌, ℕ, zero, suc, ◌+◌, ◌<◌, max, eqb}
use Rattle.vocabulary.specs.Test.{pick}
use Rattle.graph.specs.Graph.{Graph}

-- the greatest of b, f 0, .., f (n - 1)
unfoldable pub most : (ℕ → ℕ) → ℕ → ℕ → ℕ
most f b zero = b
most f b (suc n) = max (most f b n) (f n)

-- what link k brings to job x: the number of the job that it comes from, and that job's weight
abbrev pub brings : Graph → (ℕ → ℕ) → (ℕ → ℕ) → ℕ → ℕ → ℕ
brings g w v x k = pick (eqb (g.to k) x) (v (g.from k) + w (g.from k)) 0

-- the greatest of job x's own number and of what links bring to it
unfoldable pub entry : Graph → (ℕ → ℕ) → (ℕ → ℕ) → (ℕ → ℕ) → ℕ → ℕ
entry g b w v x = most (brings g w v x) (b x) g.e

-- a family v that solves the equations
abbrev pub Solves : Graph → (ℕ → ℕ) → (ℕ → ℕ) → (ℕ → ℕ) → Type 0
Solves g b w v = (x : ℕ) → x < g.n → v x ≡ entry g b w v x

-- the solution, computed: n rounds (`Settle` shows that this solves them, and is the only one, where there is no cycle)
unfoldable pub rounds : Graph → (ℕ → ℕ) → (ℕ → ℕ) → ℕ → ℕ → ℕ
rounds g b w zero x = b x
rounds g b w (suc s) x = entry g b w (rounds g b w s) x
