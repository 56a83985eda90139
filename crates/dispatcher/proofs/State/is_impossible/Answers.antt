use mathlib.Core.Path.{◌∙◌}
use borrow.Author.Tests.{le-leb, lt-leb}
use Rattle.vocabulary.proofs.Test.{clash}
use Rattle.dispatcher.specs.Refusals.{impossible}
use Rattle.dispatcher.proofs.State.is_impossible.Goals.{then-h-self, else-h-self}
use Rattle.dispatcher.proofs.State.is_impossible.Goals as goal

pub returns-then-has_bit_from : goal.returns-then-has_bit_from
unfolding impossible
returns-then-has_bit_from c = elim c.if-h-self.branch [
  | then-h-self w ↦ rw (le-leb _ _ w.if-h-self.true) c.if-has_bit_from.true
  | else-h-self w ↦ rw (lt-leb _ _ w.if-h-self.false, ← w.has_bit_from.ensures, ← w.value-is, c.if-has_bit_from.true)
]

pub returns-else-has_bit_from : goal.returns-else-has_bit_from
unfolding impossible
returns-else-has_bit_from c = elim c.if-h-self.branch [
  | then-h-self w ↦ clash (w.value-is ∙ le-leb _ _ w.if-h-self.true) c.if-has_bit_from.false
  | else-h-self w ↦ rw (lt-leb _ _ w.if-h-self.false, ← w.has_bit_from.ensures, ← w.value-is, c.if-has_bit_from.false) c.has_bit_from-else-has_bit_from.ensures
]
