use borrow.Author.Tests.{le-leb, lt-leb, lt-ltb, le-ltb}
use mathlib.Core.Path.{◌∙◌}
use Rattle.numbers.specs.Bytes.{number_is}
use Rattle.numbers.proofs.read_number.Goals as goal

pub returns-then-file-at : goal.returns-then-file-at
returns-then-file-at c = simp (number_is, le-leb _ _ c.if-file-at.true)

pub returns-then-b-lt128 : goal.returns-then-b-lt128
returns-then-b-lt128 c = simp (number_is, lt-leb _ _ c.if-file-at.false, ← c.byte-b.ensures.0, lt-ltb _ _ c.if-b-lt128.true)

pub returns : goal.returns
returns c = c.second.ensures ∙ simp (number_is, lt-leb _ _ c.if-file-at.false, ← c.byte-b.ensures.0, le-ltb _ _ c.if-b-lt128.false)
