use Rattle.reader.proofs.SlotLaws.{slots_high, slots_ended, slots_left, slots_all}
use native.Mathlib.Omega.{arith}
use Rattle.vocabulary.proofs.Least.{some_least}
use Rattle.reader.proofs.read_slots.Goals as goal

pub overflow_add-result : goal.overflow_add-result
overflow_add-result c = omega (arith, c.slots_present-there.ensures, (some_least _ _ _ c.in-Some.ensures).1)

pub returns-in-Some : goal.returns-in-Some
returns-in-Some c = slots_high _ _ _ _ c.slots_present-there.ensures c.in-Some.ensures

pub returns-then-there-k : goal.returns-then-there-k
returns-then-there-k c = slots_ended _ _ _ _ c.slots_present-there.ensures c.in_default.ensures c.if-there-k.true

pub returns-then-end-file : goal.returns-then-end-file
returns-then-end-file c = slots_left _ _ _ _ c.slots_present-there.ensures c.in_default.ensures c.if-there-k.false c.if-end-file.true

pub returns : goal.returns
returns c = slots_all _ _ _ _ c.slots_present-there.ensures c.in_default.ensures c.if-there-k.false c.if-end-file.false
