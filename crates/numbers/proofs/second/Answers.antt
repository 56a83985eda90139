use borrow.Author.Tests.{le-leb, lt-leb, lt-ltb, le-ltb, eq-eqb, ne_eqb}
use mathlib.Core.Path.{◌∙◌}
use Rattle.numbers.specs.Bytes.{second_at}
use Rattle.numbers.proofs.second.Goals as goal

pub returns-then-file-at : goal.returns-then-file-at
unfolding second_at
returns-then-file-at c = simp (le-leb _ _ c.if-file-at.true)

pub returns-then-b-eq0 : goal.returns-then-b-eq0
unfolding second_at
returns-then-b-eq0 c = simp (lt-leb _ _ c.if-file-at.false, ← c.byte-b.ensures.0, eq-eqb _ _ c.if-b-eq0.true)

pub returns-then-b-lt128 : goal.returns-then-b-lt128
unfolding second_at
returns-then-b-lt128 c = simp (lt-leb _ _ c.if-file-at.false, ← c.byte-b.ensures.0, ne_eqb _ _ c.if-b-eq0.false, lt-ltb _ _ c.if-b-lt128.true)

pub returns : goal.returns
unfolding second_at
returns c = c.third.ensures ∙ simp (lt-leb _ _ c.if-file-at.false, ← c.byte-b.ensures.0, ne_eqb _ _ c.if-b-eq0.false, le-ltb _ _ c.if-b-lt128.false)
