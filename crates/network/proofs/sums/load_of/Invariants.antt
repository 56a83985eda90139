use Rattle.network.specs.Named.{Loading}
use Rattle.kinds.specs.Tasks.{tasks_of}
use Rattle.network.proofs.sums.load_of.Given as goal

abbrev pub invariant-loop-i : goal.invariant-loop-i
invariant-loop-i l = Loading l.h (tasks_of l.n l.tables.attributes) l.sum l.i
