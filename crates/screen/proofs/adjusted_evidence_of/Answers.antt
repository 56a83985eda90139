use Rattle.screen.proofs.adjusted_evidence_of.Goals as goal

pub returns-in-Err-Cycle : goal.returns-in-Err-Cycle
returns-in-Err-Cycle c = rw (c.in-Err-Cycle.is, rw c.in-Err-Cycle.is at c.in-Err-Cycle.field-0-is) c.number_at.ensures
