use mathlib.Core.Path.{◌≡◌}
use Rattle.writer.specs.declared.WriteError.TheVariants as writeError
use Rattle.writer.proofs.evidence_of.Goals as goal

pub returns-in-Ok : goal.returns-in-Ok
returns-in-Ok c = rw c.in-Ok.is c.number_at.ensures

pub returns-in-Err-BadSlot : goal.returns-in-Err-BadSlot
returns-in-Err-BadSlot c = let z : c.in-Err-BadSlot.field-0 ≡ writeError.BadSlot c.in-Err-BadSlot.e = rw c.in-Err-BadSlot.is at c.in-Err-BadSlot.field-0-is in rw (c.in-Err-BadSlot.is, z) c.number_at-in-Err-BadSlot.ensures
