use Rattle.screen.proofs.screen.Goals as goal

pub returns : goal.returns
returns c = c.finding_of.ensures _ c.found.ensures
