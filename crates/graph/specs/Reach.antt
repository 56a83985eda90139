-- The computed test is the existence of a way; without a cycle each job has a rank, below n.
use Rattle.std.specs.Prelude.{◌≡◌}
use Rattle.std.proofs.Math.Bool.{false}
use Prim.Native.Nat.{ℕ, ◌<◌}
use Rattle.vocabulary.specs.Count.{count}
use Rattle.graph.specs.Graph.{Graph, reach, loops}

-- ---- without a cycle, the number of jobs from which a job is reached grows along each link
abbrev pub rank : Graph → ℕ → ℕ
rank g y = count (λ x. reach g x g.n y) 0 g.n

abbrev pub Free : Graph → Type 0
Free g = (x : ℕ) → x < g.n → loops g x ≡ false
