use Prim.Native.Nat.{◌+◌, ◌*◌}
use Rattle.kinds.specs.Tasks.{tasks_of}
use Rattle.judge.proofs.SweepLaws.{Sweeping}
use Rattle.judge.specs.Lent.{lent_plan}
use Rattle.judge.proofs.walk.sweep.Given as goal

abbrev pub invariant-loop-c : goal.invariant-loop-c
invariant-loop-c l = Sweeping (tasks_of l.f.tasks l.attributes) (lent_plan l.f l.slots) (l.c * l.f.processors) 0 l.c 0 l.rows

abbrev pub invariant-loop-q : goal.invariant-loop-q
invariant-loop-q l = Sweeping (tasks_of l.f.tasks l.attributes) (lent_plan l.f l.slots) (l.start + l.q) l.q l.c l.x l.rows
