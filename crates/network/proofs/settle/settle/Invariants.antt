use Rattle.graph.specs.JobRows.{Rounds}
use Prim.Native.Nat.{◌≤◌}
use Rattle.network.proofs.settle.settle.Given as goal

abbrev pub invariant-loop-k : goal.invariant-loop-k
invariant-loop-k l = (l.k ≤ l.most) × Rounds l.links l.initial.jobs l.jobs l.k
