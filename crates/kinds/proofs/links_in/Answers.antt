use borrow.Author.Tests.{eq-eqb, ne_eqb}
use Rattle.kinds.specs.Links.{links_in}
use Rattle.kinds.proofs.links_in.Goals as goal

pub returns-then-p-eq0 : goal.returns-then-p-eq0
unfolding links_in
returns-then-p-eq0 c = rw (eq-eqb _ _ c.if-p-eq0.true)

pub returns : goal.returns
unfolding links_in
returns c = rw (ne_eqb _ _ c.if-p-eq0.false)
