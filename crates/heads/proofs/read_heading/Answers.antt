use Rattle.std.proofs.Common.{rules}
use Rattle.numbers.specs.Numbers.{and_then}
use Rattle.vocabulary.proofs.Test.{by_true, by_false}
use borrow.Author.Tests.{eq-eqb, ne_eqb}
use Rattle.heads.specs.Tables.{heading_at}
use Rattle.heads.proofs.read_heading.Goals as goal

pub returns-in_err-x : goal.returns-in_err-x
unfolding heading_at and_then
returns-in_err-x c = search rules

pub returns-in_err-y : goal.returns-in_err-y
unfolding heading_at and_then
returns-in_err-y c = search rules

pub returns-then-x-y : goal.returns-then-x-y
unfolding heading_at and_then
returns-then-x-y c = simp (← c.read_within.ensures, c.in_ok-x.was, ← c.low_second.ensures, ← c.read_within-2.ensures, c.in_ok-y.was) (by_true _ _ (eq-eqb _ _ c.if-x-y.true))

pub returns : goal.returns
unfolding heading_at and_then
returns c = simp (← c.read_within.ensures, c.in_ok-x.was, ← c.low_second.ensures, ← c.read_within-2.ensures, c.in_ok-y.was, ← c.read_count.ensures) (by_false _ _ (ne_eqb _ _ c.if-x-y.false))
