use mathlib.Core.Path.{sym, ◌∙◌}
use mathlib.Core.Bool.{true}
use native.Mathlib.Omega.{arith}
use Rattle.dispatcher.specs.Refusals.{overreports}
use Rattle.dispatcher.specs.Looks.{tick_for}
use Rattle.dispatcher.proofs.LookLaws.{in_plan, look_30, look_31, lent_long, lent_look}
use Rattle.dispatcher.proofs.State.look_on.Goals as goal

pub returns-then-is_impossible : goal.returns-then-is_impossible
returns-then-is_impossible c = let a = c.args in look_30 true true _ (tick_for a.f a.attributes.now a.plan.now a.self a.report) (sym c.is_impossible.ensures ∙ c.if-is_impossible.true)

pub returns-then-has_bit_from : goal.returns-then-has_bit_from
unfolding overreports
returns-then-has_bit_from c = let a = c.args in look_31 true true _ (tick_for a.f a.attributes.now a.plan.now a.self a.report) (sym c.is_impossible.ensures ∙ c.if-is_impossible.false) (sym c.has_bit_from.ensures ∙ c.if-has_bit_from.true)

pub overflow_mul-at : goal.overflow_mul-at
overflow_mul-at c = let z = in_plan c.args.self c.requires.0 c.requires.1 (sym c.is_impossible.ensures ∙ c.if-is_impossible.false) c.wide-m.ensures.0 c.wide.ensures.0 in omega (arith, z.row, z.short)

pub step_row-requires : goal.step_row-requires
step_row-requires c = let a = c.args in let z = in_plan c.args.self c.requires.0 c.requires.1 (sym c.is_impossible.ensures ∙ c.if-is_impossible.false) c.wide-m.ensures.0 c.wide.ensures.0 in (c.requires.0, z.tick, lent_long a.f a.attributes.now a.plan.now a.self a.report z.row c.wide-m.ensures.0 c.wide.ensures.0 c.part_of-row.ensures, omega (arith, z.row, z.short))

pub returns : goal.returns
unfolding overreports
returns c = let a = c.args in let z = in_plan c.args.self c.requires.0 c.requires.1 (sym c.is_impossible.ensures ∙ c.if-is_impossible.false) c.wide-m.ensures.0 c.wide.ensures.0 in lent_look a.f a.attributes.now a.plan.now a.self a.report z.row c.wide-m.ensures.0 c.wide.ensures.0 c.part_of-row.ensures c.step_row.ensures (sym c.is_impossible.ensures ∙ c.if-is_impossible.false) (sym c.has_bit_from.ensures ∙ c.if-has_bit_from.false)
