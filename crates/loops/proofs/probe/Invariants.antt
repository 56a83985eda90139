use Rattle.graph.specs.SearchRows.{Probing}
use Prim.Native.Nat.{◌-◌}
use lib.ListN.{length}
use Rattle.loops.proofs.probe.Given as goal

abbrev pub invariant-loop-at : goal.invariant-loop-at
invariant-loop-at l = Probing l.links l.x l.initial.jobs l.jobs l.tail l.at

abbrev pub decreases-loop-at : goal.decreases-loop-at
decreases-loop-at l = length l.initial.jobs - l.at
