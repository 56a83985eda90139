use Rattle.reader.proofs.SlotLaws.{high_in_part}
use Rattle.vocabulary.specs.Least.{least, lowest}
use native.Mathlib.Omega.{arith}
use Rattle.reader.proofs.high_slot.Goals as goal

pub returns-then-there-eq0 : goal.returns-then-there-eq0
unfolding lowest least
returns-then-there-eq0 c = rw c.if-there-eq0.true

pub returns : goal.returns
returns c = high_in_part _ _ _ _ (omega arith) c.first_high.ensures
