use Rattle.vocabulary.specs.Bits.{Packing}
use Rattle.dispatcher.specs.Looks.{keeps}
use Rattle.kinds.specs.Tasks.{tasks_of}
use Rattle.dispatcher.proofs.marks.kept_marks.Given as goal

abbrev pub invariant-loop-i : goal.invariant-loop-i
invariant-loop-i l = Packing (keeps (tasks_of l.f.tasks l.attributes) l.f.ticks l.c l.marks) l.f.tasks l.i l.r
