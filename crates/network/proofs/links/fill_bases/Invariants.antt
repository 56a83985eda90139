use Rattle.kinds.specs.Tasks.{tasks_of}
use Rattle.network.specs.LinkLists.{Basing}
use Rattle.network.proofs.links.fill_bases.Given as goal

abbrev pub invariant-loop-i : goal.invariant-loop-i
invariant-loop-i l = Basing l.h (tasks_of l.n l.tables.attributes) l.base l.b l.i
