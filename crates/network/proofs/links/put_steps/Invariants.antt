use Rattle.network.specs.LinkLists.{StepsMade}
use Rattle.network.proofs.links.put_steps.Given as goal

abbrev pub invariant-loop-n : goal.invariant-loop-n
invariant-loop-n l = StepsMade l.e l.c l.initial.x l.initial.y l.dx l.dy l.initial.links l.links l.x l.y l.n
