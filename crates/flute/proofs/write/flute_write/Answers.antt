use Rattle.flute.specs.Calls.{wrote}
use Rattle.flute.proofs.write.flute_write.Goals as goal

pub returns : goal.returns
returns c = wrote c.write_head.ensures c.number_of.ensures
