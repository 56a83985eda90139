use Rattle.judge.proofs.evidence_of.Goals as goal

pub returns-in-BadSlot : goal.returns-in-BadSlot
returns-in-BadSlot c = rw c.in-BadSlot.is c.number_at.ensures

pub returns-in-Twice : goal.returns-in-Twice
returns-in-Twice c = rw c.in-Twice.is c.number_at-in-Twice.ensures

pub returns-in-Outside : goal.returns-in-Outside
returns-in-Outside c = rw c.in-Outside.is c.number_at-in-Outside.ensures

pub returns-in-WrongCount : goal.returns-in-WrongCount
returns-in-WrongCount c = rw c.in-WrongCount.is c.number_at-in-WrongCount.ensures

pub returns-in-BrokenLink : goal.returns-in-BrokenLink
returns-in-BrokenLink c = rw c.in-BrokenLink.is c.number_at-in-BrokenLink.ensures
