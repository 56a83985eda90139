use Rattle.dispatcher.specs.Bytes.{state_of}
use Rattle.dispatcher.proofs.State.read.Goals as goal

pub returns : goal.returns
unfolding state_of
returns c = rw (← c.number_in.ensures.0, ← c.byte_in.ensures, ← c.number_in-2.ensures.0, ← c.number_in-3.ensures.0)
