use Rattle.kinds.specs.Plans.{plan}
use Rattle.judge.proofs.RowLaws.{Rowing}
use Rattle.judge.proofs.twice.PlanView.is_row_twice.Given as goal

abbrev pub invariant-loop-q : goal.invariant-loop-q
invariant-loop-q l = Rowing (plan l.self.slots.now l.self.m l.self.h) l.c l.q l.x
