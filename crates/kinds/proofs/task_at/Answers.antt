use Rattle.kinds.specs.Tasks.{task_in}
use borrow.Author.Tests.{lt-ltb, le-ltb}
use Rattle.kinds.proofs.task_at.Goals as goal

pub returns-then-i-ge-MOST_TASKS : goal.returns-then-i-ge-MOST_TASKS
unfolding task_in
returns-then-i-ge-MOST_TASKS c = rw (le-ltb _ _ c.if-i-ge-MOST_TASKS.true)

pub returns : goal.returns
unfolding task_in
returns c = rw (lt-ltb _ _ c.if-i-ge-MOST_TASKS.false)
