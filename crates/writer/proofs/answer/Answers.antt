use native.Mathlib.Omega.{arith}
use Rattle.writer.proofs.Order.{few_slots, other_length, high_slot_lem, too_short, fits}
use Rattle.writer.proofs.answer.Goals as goal

pub overflow_mul-f : goal.overflow_mul-f
overflow_mul-f c = omega (arith, few_slots c.args.set c.args.plan.now 0 c.requires)

pub returns-then-plan-f : goal.returns-then-plan-f
returns-then-plan-f c = other_length c.args.set c.args.plan.now c.args.room c.requires c.if-plan-f.true

pub returns-in-Some : goal.returns-in-Some
returns-in-Some c = high_slot_lem c.args.set c.args.plan.now c.args.room c.requires c.if-plan-f.false c.in-Some.ensures

pub head_length-requires : goal.head_length-requires
head_length-requires c = c.requires.is_sound

pub overflow_add-length : goal.overflow_add-length
overflow_add-length c = omega (arith, c.head_length.ensures.1, few_slots c.args.set c.args.plan.now 0 c.requires, c.if-plan-f.false)

pub returns-then-room-length : goal.returns-then-room-length
returns-then-room-length c = too_short c.args.set c.args.plan.now c.args.room c.requires c.if-plan-f.false c.in_default.ensures c.head_length.ensures.0 c.if-room-length.true

pub returns : goal.returns
returns c = fits c.args.set c.args.plan.now c.args.room c.requires c.if-plan-f.false c.in_default.ensures c.head_length.ensures.0 c.if-room-length.false
