use Rattle.network.specs.JobTimes.{Owning}
use Rattle.kinds.specs.Tasks.{tasks_of}
use Rattle.network.proofs.times.own_times.Given as goal

abbrev pub invariant-loop-i : goal.invariant-loop-i
invariant-loop-i l = Owning (tasks_of l.n l.tables.attributes) l.jobs l.b l.i
