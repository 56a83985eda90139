use Rattle.graph.specs.SearchRows.{Searching}
use Rattle.loops.proofs.seek.Given as goal

abbrev pub invariant-loop-x : goal.invariant-loop-x
invariant-loop-x l = Searching l.links l.next l.initial.jobs l.jobs l.x
