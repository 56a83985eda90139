use mathlib.Core.Path.{◌∙◌}
use borrow.Author.Tests.{ne_eqb}
use native.Mathlib.Omega.{arith}
use Rattle.dispatcher.proofs.LookLaws.{low_product, other_plan, last_length}
use Rattle.dispatcher.proofs.lengths_fit.Goals as goal

pub overflow_mul-m : goal.overflow_mul-m
overflow_mul-m c = let p = c.requires in omega (arith, low_product _ _ p.0 p.1 c.wide-m.ensures.0 c.wide.ensures.0)

pub returns-else-plan-m : goal.returns-else-plan-m
returns-else-plan-m c = ne_eqb _ _ c.if-plan-m.false ∙ other_plan _ _ _ _ c.wide-m.ensures.0 c.wide.ensures.0 c.if-plan-m.false

pub returns-then-plan-m : goal.returns-then-plan-m
returns-then-plan-m c = last_length _ _ _ _ c.wide-m.ensures.0 c.wide.ensures.0 c.if-plan-m.true
