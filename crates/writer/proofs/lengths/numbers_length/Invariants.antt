use Prim.Native.Nat.{◌*◌, ◌≤◌}
use lib.ListN.{take}
use Rattle.writer.specs.Lent.{NumbersLong}
use Rattle.writer.proofs.lengths.numbers_length.Given as goal

abbrev pub invariant-loop-v : goal.invariant-loop-v
invariant-loop-v g l = (l.total ≤ 3 * l.v-index) × NumbersLong g.T.Into.converts (take l.v-index l.numbers) l.total
