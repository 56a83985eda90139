use borrow.Author.Tests.{le-leb, lt-leb, lt-ltb, le-ltb, eq-eqb, ne_eqb}
use Rattle.numbers.specs.Bytes.{third_at}
use Rattle.numbers.proofs.third.Goals as goal

pub returns-then-file-at : goal.returns-then-file-at
unfolding third_at
returns-then-file-at c = simp (le-leb _ _ c.if-file-at.true)

pub returns-then-c-eq0 : goal.returns-then-c-eq0
unfolding third_at
returns-then-c-eq0 c = simp (lt-leb _ _ c.if-file-at.false, ← c.byte-c.ensures.0, eq-eqb _ _ c.if-c-eq0.true)

pub returns-then-c-lt128 : goal.returns-then-c-lt128
unfolding third_at
returns-then-c-lt128 c = simp (lt-leb _ _ c.if-file-at.false, ← c.byte-c.ensures.0, ne_eqb _ _ c.if-c-eq0.false, lt-ltb _ _ c.if-c-lt128.true)

pub returns : goal.returns
unfolding third_at
returns c = simp (lt-leb _ _ c.if-file-at.false, ← c.byte-c.ensures.0, ne_eqb _ _ c.if-c-eq0.false, le-ltb _ _ c.if-c-lt128.false)
