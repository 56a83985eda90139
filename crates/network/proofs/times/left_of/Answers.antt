use Rattle.network.proofs.Signs.{left_fits, left_is}
use Rattle.network.proofs.times.left_of.Goals as goal

pub overflow_sub-result : goal.overflow_sub-result
overflow_sub-result c = left_fits _ c.requires

pub returns : goal.returns
returns c = left_is _ c.requires
