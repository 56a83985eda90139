use Rattle.kinds.specs.Tasks.{pair_in}
use borrow.Author.Tests.{lt-ltb, le-ltb}
use borrow.Author.Rules.{rules}
use Rattle.kinds.proofs.pair_at.Goals as goal

pub returns-then-x-ge-MOST_PAIRS : goal.returns-then-x-ge-MOST_PAIRS
unfolding pair_in
returns-then-x-ge-MOST_PAIRS c = (rw (le-ltb _ _ c.if-x-ge-MOST_PAIRS.true), search rules, search rules)

pub returns : goal.returns
unfolding pair_in
returns c = (rw (lt-ltb _ _ c.if-x-ge-MOST_PAIRS.false, ← c.wide16.ensures.0, ← c.wide16-2.ensures.0), c.wide16.ensures.1, c.wide16-2.ensures.1)
