use Rattle.dispatcher.proofs.evidence_of.Goals as goal

pub returns-in-Err-BadSlot : goal.returns-in-Err-BadSlot
returns-in-Err-BadSlot c = let h = c.in-Err-BadSlot in let z = rw h.is at h.field-0-is in rw (h.is, z) c.number_at.ensures
