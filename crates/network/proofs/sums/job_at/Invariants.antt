use Rattle.network.specs.Named.{Naming}
use Rattle.kinds.specs.Tasks.{tasks_of}
use Rattle.network.proofs.sums.job_at.Given as goal

abbrev pub invariant-loop-i : goal.invariant-loop-i
invariant-loop-i l = Naming (tasks_of l.n l.tables.attributes) l.x l.y l.i
