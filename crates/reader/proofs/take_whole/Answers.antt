use borrow.Author.Tests.{eq-eqb, ne_eqb}
use Rattle.vocabulary.proofs.Test.{by_true, by_false}
use Rattle.reader.proofs.take_whole.Goals as goal

pub returns-then-at-length : goal.returns-then-at-length
returns-then-at-length c = by_true _ _ (eq-eqb _ _ c.if-at-length.true)

pub returns : goal.returns
returns c = by_false _ _ (ne_eqb _ _ c.if-at-length.false)
