use Rattle.screen.proofs.adjusted_for.Goals as goal

pub returns : goal.returns
returns c = c.adjusted_of.ensures _ c.found.ensures
