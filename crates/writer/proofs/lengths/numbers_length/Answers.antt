use native.Mathlib.Omega.{arith}
use Rattle.writer.proofs.Turns.{long_none, long_next, long_all}
use Rattle.writer.proofs.Widths.{width_low}
use Rattle.writer.proofs.lengths.numbers_length.Goals as goal

pub loop-v-init : goal.loop-v-init
loop-v-init g c = (omega arith, long_none g.T.Into.converts c.args.numbers.now)

pub overflow_add-total : goal.overflow_add-total
overflow_add-total g c = omega (arith, c.requires, c.loop-v.invariant.0, c.loop-v-test.true, width_low c.into.result, c.width-total.ensures)

pub loop-v-preserved : goal.loop-v-preserved
loop-v-preserved g c = (omega (arith, c.loop-v.invariant.0, width_low c.into.result, c.width-total.ensures), long_next g.T.Into.converts c.args.numbers.now c.loop-v.v-index c.loop-v-test.true c.v-item.is c.into.ensures c.loop-v.invariant.1 c.width-total.ensures)

pub returns : goal.returns
returns g c = long_all g.T.Into.converts c.args.numbers.now c.loop-v.v-index c.loop-v-test.false c.loop-v.invariant.1
