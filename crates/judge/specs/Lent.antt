-- The plan that numbers and lent slots make, and what is answered where the walk stopped.
use Rattle.std.specs.Prelude.{List, ℕ}
use Rattle.vocabulary.specs.Test.{pick}
use Rattle.vocabulary.specs.Least.{some}
use Rattle.kinds.specs.declared.Counts.{Counts}
use Rattle.kinds.specs.Tasks.{Tasks}
use Rattle.kinds.specs.Plans.{Plan, plan}
use Rattle.judge.specs.declared.Verdict.{Verdict}
use Rattle.judge.specs.declared.twice.PlanView.{PlanView}
use Rattle.judge.specs.RowMarks.{Worded}
use Rattle.judge.specs.Rules.{clashes}
use Rattle.judge.specs.Judgement.{twice_at, outside_at}

-- the plan for a set that is lent
abbrev pub lent_plan : Counts → List ℕ → Plan
lent_plan f slots = plan slots f.processors f.ticks

-- the plan that is seen, whose slots' tasks fit a word
abbrev pub plan_in : PlanView → Plan
plan_in v = plan v.slots.now v.m v.h

abbrev pub Viewed : PlanView → Type 0
Viewed v = Worded v.slots.now v.m v.h

-- What is answered where the walk stopped.
unfoldable pub misplaced_verdict : Tasks → Plan → Verdict
misplaced_verdict u p = pick (some (clashes p) p.cycle) (twice_at p) (outside_at u p)
