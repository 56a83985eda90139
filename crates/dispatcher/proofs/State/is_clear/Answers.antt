use Rattle.dispatcher.proofs.ByteLoops.{clear_is}
use Rattle.dispatcher.proofs.State.is_clear.Goals as goal

pub returns : goal.returns
returns c = clear_is _ _ c.byte_in.ensures
