use Rattle.vocabulary.specs.Least.{Seeking}
use Rattle.kinds.specs.Plans.{plan}
use Rattle.judge.specs.Rules.{clashes}
use Rattle.judge.proofs.twice.PlanView.first_twice.Given as goal

abbrev pub invariant-loop-c : goal.invariant-loop-c
invariant-loop-c l = Seeking (clashes (plan l.self.slots.now l.self.m l.self.h)) l.self.h l.c
