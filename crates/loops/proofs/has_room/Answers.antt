use mathlib.Core.Path.{refl}
use Rattle.loops.proofs.LentLaws.{other_length, many_links, jobs_decide}
use Rattle.loops.proofs.has_room.Goals as goal

pub returns-then-next-links : goal.returns-then-next-links
returns-then-next-links c = other_length _ _ _ c.if-next-links.true

pub returns-then-links-gt-MOST_LINKS : goal.returns-then-links-gt-MOST_LINKS
returns-then-links-gt-MOST_LINKS c = many_links _ _ _ c.if-next-links.false c.if-links-gt-MOST_LINKS.true

pub returns : goal.returns
returns c = jobs_decide _ _ _ c.if-next-links.false c.if-links-gt-MOST_LINKS.false _ refl
