use Rattle.screen.proofs.evidence_of.Goals as goal

pub returns-in-Some-Cycle : goal.returns-in-Some-Cycle
returns-in-Some-Cycle c = rw (c.in-Some-Cycle.is, rw c.in-Some-Cycle.is at c.in-Some-Cycle.field-0-is) c.number_at.ensures

pub returns-in-Some-Overload : goal.returns-in-Some-Overload
returns-in-Some-Overload c = rw (c.in-Some-Overload.is, rw c.in-Some-Overload.is at c.in-Some-Overload.field-0-is) c.number_at-in-Some-Overload.ensures

pub returns-in-Some-TooTight : goal.returns-in-Some-TooTight
returns-in-Some-TooTight c = rw (c.in-Some-TooTight.is, rw c.in-Some-TooTight.is at c.in-Some-TooTight.field-0-is) c.number_at-in-Some-TooTight.ensures
