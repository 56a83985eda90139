use Rattle.dispatcher.proofs.marks.is_asleep.Goals as goal

pub returns-then-s : goal.returns-then-s
returns-then-s c = rw c.if-s.true
