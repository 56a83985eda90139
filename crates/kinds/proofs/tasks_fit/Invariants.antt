use Rattle.vocabulary.specs.Least.{Passing}
use Rattle.kinds.specs.Tasks.{tasks_of}
use Rattle.kinds.specs.Sound.{task_fits}
use Rattle.kinds.proofs.tasks_fit.Given as goal

abbrev pub invariant-loop-i : goal.invariant-loop-i
invariant-loop-i l = Passing (task_fits (tasks_of l.n l.attributes)) l.n l.i
