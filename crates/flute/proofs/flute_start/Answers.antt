use Rattle.flute.specs.Calls.{started}
use Rattle.flute.proofs.flute_start.Goals as goal

pub returns : goal.returns
returns c = started c.start_head.ensures c.number_of.ensures
