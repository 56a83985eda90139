use Rattle.vocabulary.specs.Least.{Seeking}
use Rattle.kinds.specs.Plans.{plan}
use Rattle.judge.specs.Rules.{mated}
use Rattle.judge.proofs.twice.PlanView.first_mated.Given as goal

abbrev pub invariant-loop-q : goal.invariant-loop-q
invariant-loop-q l = Seeking (mated (plan l.self.slots.now l.self.m l.self.h) l.c) l.self.m l.q
