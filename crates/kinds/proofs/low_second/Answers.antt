use borrow.Author.Tests.{eq-eqb, ne_eqb}
use Rattle.kinds.proofs.low_second.Goals as goal

pub returns-then-x-low : goal.returns-then-x-low
returns-then-x-low c = rw (eq-eqb _ _ c.if-x-low.true)

pub returns-else-x-low : goal.returns-else-x-low
returns-else-x-low c = rw (ne_eqb _ _ c.if-x-low.false)
