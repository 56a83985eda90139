use mathlib.Core.Path.{sym, ◌∙◌}
use Rattle.vocabulary.proofs.Least.{seek, on, found, nowhere}
use Rattle.judge.proofs.twice.PlanView.mate_of.Goals as goal

pub loop-r-init : goal.loop-r-init
loop-r-init c = seek _ _

pub returns-then-are_twins : goal.returns-then-are_twins
returns-then-are_twins c = found _ _ _ c.loop-r.invariant c.loop-r-test.true (sym c.are_twins.ensures ∙ c.if-are_twins.true)

pub loop-r-preserved : goal.loop-r-preserved
loop-r-preserved c = on _ _ _ c.loop-r.invariant c.loop-r-test.true (sym c.are_twins.ensures ∙ c.if-are_twins.false)

pub returns : goal.returns
returns c = nowhere _ _ _ c.loop-r.invariant c.loop-r-test.false
