use Rattle.flute.specs.Calls.{numbered}
use Rattle.flute.proofs.adjust.flute_adjust.Goals as goal

pub returns : goal.returns
returns c = numbered _ _ _ c.adjust_head-a.ensures c.adjusted_number_of.ensures
