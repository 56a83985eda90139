use Rattle.std.proofs.Common.{rules}
use Rattle.place.specs.Places.{next_of}
use Rattle.place.proofs.next_of.Goals as goal

pub returns-in-Ok : goal.returns-in-Ok
unfolding next_of
returns-in-Ok c = search rules

pub returns-in-Err : goal.returns-in-Err
unfolding next_of
returns-in-Err c = search rules
