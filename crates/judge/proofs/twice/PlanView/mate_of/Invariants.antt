use Rattle.vocabulary.specs.Least.{Seeking}
use Rattle.kinds.specs.Plans.{plan}
use Rattle.judge.specs.Rules.{twin}
use Rattle.judge.proofs.twice.PlanView.mate_of.Given as goal

abbrev pub invariant-loop-r : goal.invariant-loop-r
invariant-loop-r l = Seeking (twin (plan l.self.slots.now l.self.m l.self.h) l.c l.q) l.self.m l.r
