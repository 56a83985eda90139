use Rattle.graph.specs.SearchRows.{ThreadMade}
use Rattle.loops.proofs.thread.Given as goal

abbrev pub invariant-loop-k : goal.invariant-loop-k
invariant-loop-k l = ThreadMade l.links l.next l.initial.jobs l.jobs l.k
