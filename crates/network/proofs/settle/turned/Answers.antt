use Rattle.network.proofs.settle.turned.Goals as goal

pub returns-then-back : goal.returns-then-back
returns-then-back c = rw c.if-back.true

pub returns-else-back : goal.returns-else-back
returns-else-back c = rw c.if-back.false
