use Rattle.reader.proofs.Ways.{taken_refused, taken_closed}
use Rattle.reader.proofs.take_head.Goals as goal

pub returns-in-Err : goal.returns-in-Err
returns-in-Err c = taken_refused _ _ _ (rw c.new-tables.ensures at c.read_head.ensures) c.in-Err.is

pub returns-in-Ok : goal.returns-in-Ok
returns-in-Ok c = taken_closed _ _ _ (rw c.new-tables.ensures at c.read_head.ensures) c.in-Ok.is c.of-set.ensures c.take_whole.ensures
