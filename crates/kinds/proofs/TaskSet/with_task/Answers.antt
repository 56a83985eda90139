use borrow.Author.Tests.{le-leb, lt-leb}
use Rattle.kinds.specs.Build.{with_task}
use Rattle.kinds.proofs.TaskSet.with_task.Goals as goal

pub returns-then-i-ge-MOST_TASKS : goal.returns-then-i-ge-MOST_TASKS
unfolding with_task
returns-then-i-ge-MOST_TASKS c = rw (le-leb 64 _ c.if-i-ge-MOST_TASKS.true)

pub returns : goal.returns
unfolding with_task
returns c = rw (lt-leb 64 _ c.if-i-ge-MOST_TASKS.false)
