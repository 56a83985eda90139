use Rattle.flute.specs.Calls.{stepped}
use Rattle.flute.proofs.flute_step.Goals as goal

pub returns : goal.returns
returns c = stepped c.step_head.ensures c.number_of.ensures
