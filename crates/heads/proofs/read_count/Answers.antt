use Rattle.std.proofs.Common.{rules}
use Rattle.numbers.specs.Numbers.{and_then}
use Rattle.vocabulary.proofs.Test.{by_true, by_false}
use borrow.Author.Tests.{le-leb, lt-leb}
use Rattle.heads.specs.Tables.{count_from}
use Rattle.heads.proofs.read_count.Goals as goal

pub returns-in_err-c : goal.returns-in_err-c
unfolding count_from and_then
returns-in_err-c c = search rules

pub returns-then-used-n-le-MOST_PAIRS : goal.returns-then-used-n-le-MOST_PAIRS
unfolding count_from and_then
returns-then-used-n-le-MOST_PAIRS c = simp (← c.read_within.ensures, c.in_ok-c.was) (by_true _ _ (le-leb _ _ c.if-used-n-le-MOST_PAIRS.true))

pub returns : goal.returns
unfolding count_from and_then
returns c = simp (← c.read_within.ensures, c.in_ok-c.was) (by_false _ _ (lt-leb _ _ c.if-used-n-le-MOST_PAIRS.false))
