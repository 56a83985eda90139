use Rattle.vocabulary.proofs.Table.{fill_from, fill_on, filled_table}
use Rattle.dispatcher.proofs.ByteLoops.{written, not_written}
use Rattle.dispatcher.proofs.State.write.Goals as goal

pub returns-then-out-ne-BYTES : goal.returns-then-out-ne-BYTES
returns-then-out-ne-BYTES c = not_written _ _ c.if-out-ne-BYTES.true

pub loop-k-init : goal.loop-k-init
loop-k-init c = fill_from _ _ _ _ c.if-out-ne-BYTES.false

pub loop-k-preserved : goal.loop-k-preserved
loop-k-preserved c = fill_on _ _ _ _ _ _ c.loop-k.invariant c.loop-k-test.true c.byte_at.ensures

pub returns : goal.returns
returns c = written _ _ _ c.if-out-ne-BYTES.false (filled_table _ _ _ _ _ c.loop-k.invariant c.loop-k-test.false)
