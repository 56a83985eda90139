use borrow.Author.Tests.{le-leb, lt-leb}
use Rattle.kinds.specs.Limits.{holds}
use Rattle.kinds.proofs.is_within.Goals as goal

pub returns-then-low-v : goal.returns-then-low-v
unfolding holds
returns-then-low-v c = rw (le-leb _ _ c.if-low-v.true)

pub returns-else-low-v : goal.returns-else-low-v
unfolding holds
returns-else-low-v c = rw (lt-leb _ _ c.if-low-v.false)
