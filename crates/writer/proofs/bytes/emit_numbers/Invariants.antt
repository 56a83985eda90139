use lib.ListN.{take}
use Rattle.writer.specs.Wrote.{NumbersWrote}
use Rattle.writer.proofs.bytes.emit_numbers.Given as goal

abbrev pub invariant-loop-v : goal.invariant-loop-v
invariant-loop-v g l = NumbersWrote g.T.Into.converts (take l.v-index l.numbers) l.initial.out l.at l.out l.next
