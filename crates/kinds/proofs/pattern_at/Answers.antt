use Rattle.kinds.specs.Tasks.{pattern_in}
use borrow.Author.Tests.{lt-ltb, le-ltb}
use Rattle.kinds.proofs.pattern_at.Goals as goal

pub returns-then-k-ge-MOST_PATTERNS : goal.returns-then-k-ge-MOST_PATTERNS
unfolding pattern_in
returns-then-k-ge-MOST_PATTERNS c = rw (le-ltb _ _ c.if-k-ge-MOST_PATTERNS.true)

pub returns : goal.returns
unfolding pattern_in
returns c = rw (lt-ltb _ _ c.if-k-ge-MOST_PATTERNS.false)
