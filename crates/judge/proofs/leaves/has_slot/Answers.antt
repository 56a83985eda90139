use borrow.Author.Tests.{eq-eqb, ne_eqb}
use Rattle.vocabulary.specs.Bits.{has}
use Rattle.judge.specs.RowMarks.{marked}
use Rattle.judge.proofs.leaves.has_slot.Goals as goal

pub returns-then-v-eq0 : goal.returns-then-v-eq0
unfolding marked
returns-then-v-eq0 c = rw (eq-eqb _ _ c.if-v-eq0.true)

pub returns : goal.returns
unfolding marked has
returns c = rw (ne_eqb _ _ c.if-v-eq0.false)
