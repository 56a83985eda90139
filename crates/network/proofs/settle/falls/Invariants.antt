use Rattle.graph.specs.JobRows.{starts, ends, aheads}
use Rattle.graph.specs.Cycle.{Falling}
use Rattle.network.proofs.settle.falls.Given as goal

abbrev pub invariant-loop-k : goal.invariant-loop-k
invariant-loop-k l = Falling (starts l.links) (ends l.links) (aheads l.jobs) l.k
