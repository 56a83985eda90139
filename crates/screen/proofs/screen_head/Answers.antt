use Rattle.screen.proofs.FoundLaws.{screened}
use Rattle.screen.proofs.screen_head.Goals as goal

pub returns : goal.returns
returns c = screened _ (c.finding_of.ensures _ c.found_head.ensures)
