use Rattle.graph.specs.SearchRows.{SearchWalking}
use Rattle.graph.specs.SearchRows.{SearchWalking}
use Rattle.loops.proofs.walk.Given as goal

abbrev pub invariant-loop-i : goal.invariant-loop-i
invariant-loop-i l = SearchWalking l.links l.v l.x l.tail l.initial.jobs l.jobs l.i l.t

abbrev pub decreases-loop-i : goal.decreases-loop-i
decreases-loop-i l = l.i
