use borrow.Author.Tests.{le-leb, lt-leb}
use Rattle.heads.specs.LoopSteps.{closing}
use Rattle.heads.proofs.close_head.Goals as goal

pub returns-then-links-gt-MOST_LINKS : goal.returns-then-links-gt-MOST_LINKS
unfolding closing
returns-then-links-gt-MOST_LINKS c = simp (lt-leb _ _ c.if-links-gt-MOST_LINKS.true)

pub returns : goal.returns
unfolding closing
returns c = simp (le-leb _ _ c.if-links-gt-MOST_LINKS.false)
