use mathlib.Core.Path.{sym, ◌∙◌}
use Rattle.vocabulary.proofs.Least.{seek, on, found, nowhere}
use Rattle.judge.proofs.twice.PlanView.first_twice.Goals as goal

pub loop-c-init : goal.loop-c-init
loop-c-init c = seek _ _

pub is_row_twice-requires : goal.is_row_twice-requires
is_row_twice-requires c = (c.requires, c.loop-c-test.true)

pub returns-then-is_row_twice : goal.returns-then-is_row_twice
returns-then-is_row_twice c = found _ _ _ c.loop-c.invariant c.loop-c-test.true (sym c.is_row_twice.ensures ∙ c.if-is_row_twice.true)

pub loop-c-preserved : goal.loop-c-preserved
loop-c-preserved c = on _ _ _ c.loop-c.invariant c.loop-c-test.true (sym c.is_row_twice.ensures ∙ c.if-is_row_twice.false)

pub returns : goal.returns
returns c = nowhere _ _ _ c.loop-c.invariant c.loop-c-test.false
