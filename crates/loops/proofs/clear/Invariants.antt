use Rattle.graph.specs.SearchRows.{Clearing}
use Rattle.loops.proofs.clear.Given as goal

abbrev pub invariant-loop-i : goal.invariant-loop-i
invariant-loop-i l = Clearing l.initial.jobs l.jobs l.i
