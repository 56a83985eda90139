use Rattle.flute.specs.Calls.{read_number_lem}
use Rattle.flute.proofs.flute_read.Goals as goal

pub returns : goal.returns
returns c = read_number_lem _ c.read_outcome.ensures c.number_of.ensures
