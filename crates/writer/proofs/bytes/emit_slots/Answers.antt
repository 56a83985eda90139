use native.Mathlib.Omega.{arith}
use Rattle.writer.proofs.Turns.{copy_first, copy_next, copy_long, copied}
use Rattle.writer.proofs.bytes.emit_slots.Goals as goal

pub loop-e-init : goal.loop-e-init
loop-e-init c = (omega arith, copy_first c.args.out.now c.args.at c.args.slots.now)

pub overflow_add-out : goal.overflow_add-out
overflow_add-out c = omega (arith, c.requires)

pub bounds-out-at : goal.bounds-out-at
bounds-out-at c = omega (arith, c.requires, c.loop-e-test.true, copy_long c.args.out.now c.args.at c.args.slots.now c.loop-e.e c.requires c.loop-e.invariant)

pub loop-e-preserved : goal.loop-e-preserved
loop-e-preserved c = (omega arith, copy_next c.args.out.now c.args.at c.args.slots.now c.loop-e.e c.requires c.loop-e-test.true c.loop-e.invariant.1)

pub shape_of-out : goal.shape_of-out
shape_of-out c = copy_long c.args.out.now c.args.at c.args.slots.now c.loop-e.e c.requires c.loop-e.invariant

pub returns : goal.returns
returns c = copied c.args.out.now c.args.at c.args.slots.now c.loop-e.e c.requires c.loop-e-test.false c.loop-e.invariant
