use Rattle.std.proofs.Common.{rules}
use Rattle.place.specs.Places.{first_of}
use Rattle.place.proofs.first_slot_at.Goals as goal

pub returns : goal.returns
unfolding first_of
returns c = search rules
