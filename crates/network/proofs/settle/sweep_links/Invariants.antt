use Rattle.graph.specs.JobRows.{Sweeps}
use Rattle.network.proofs.settle.sweep_links.Given as goal

abbrev pub invariant-loop-k : goal.invariant-loop-k
invariant-loop-k l = Sweeps l.back l.links l.initial.jobs l.jobs l.k l.changed
