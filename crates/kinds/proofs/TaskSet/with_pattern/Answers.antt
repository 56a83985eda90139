use borrow.Author.Tests.{le-leb, lt-leb}
use Rattle.kinds.specs.Build.{with_pattern}
use Rattle.kinds.proofs.TaskSet.with_pattern.Goals as goal

pub returns-then-k-ge-MOST_PATTERNS : goal.returns-then-k-ge-MOST_PATTERNS
unfolding with_pattern
returns-then-k-ge-MOST_PATTERNS c = rw (le-leb 64 _ c.if-k-ge-MOST_PATTERNS.true)

pub returns : goal.returns
unfolding with_pattern
returns c = rw (lt-leb 64 _ c.if-k-ge-MOST_PATTERNS.false)
