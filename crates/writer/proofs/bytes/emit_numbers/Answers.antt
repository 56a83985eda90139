use Rattle.writer.proofs.Turns.{wrote_nothing, wrote_next, low_next, room_next, wrote_all}
use Rattle.writer.proofs.bytes.emit_numbers.Goals as goal

pub loop-v-init : goal.loop-v-init
loop-v-init g c = wrote_nothing g.T.Into.converts c.args.numbers.now _ _

pub emit_number-next-requires : goal.emit_number-next-requires
emit_number-next-requires g c = (low_next g.T.Into.converts c.args.numbers.now c.loop-v.v-index c.loop-v-test.true c.v-item.is c.into.ensures c.loop-v.invariant c.requires, room_next g.T.Into.converts c.args.numbers.now c.loop-v.v-index c.loop-v-test.true c.v-item.is c.into.ensures c.loop-v.invariant c.requires)

pub loop-v-preserved : goal.loop-v-preserved
loop-v-preserved g c = wrote_next g.T.Into.converts c.args.numbers.now c.loop-v.v-index c.loop-v-test.true c.v-item.is c.into.ensures c.loop-v.invariant c.emit_number-next.ensures

pub returns : goal.returns
returns g c = wrote_all g.T.Into.converts c.args.numbers.now c.loop-v.v-index c.loop-v-test.false c.loop-v.invariant
