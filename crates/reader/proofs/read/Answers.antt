use Rattle.std.proofs.lemmas.Result.{err_from_is_err_and}
use Rattle.reader.proofs.Ways.{read_refused, read_stopped, read_closed}
use Rattle.reader.proofs.read.Goals as goal

pub returns-in_err-f : goal.returns-in_err-f
returns-in_err-f c =
    let e = err_from_is_err_and c.from_residual.result c.from_residual.ensures.1 in
    rw (e.1, e.2) (read_refused _ _ _ (rw c.new-tables.ensures at c.read_head.ensures) c.in_err-f.was)

pub returns-in_err-first_slot : goal.returns-in_err-first_slot
returns-in_err-first_slot c =
    let e = err_from_is_err_and c.from_residual-in_err-first_slot.result c.from_residual-in_err-first_slot.ensures.1 in
    rw (e.1, e.2) (read_stopped _ _ _ (rw c.new-tables.ensures at c.read_head.ensures) c.in_ok-f.was c.end_file.ensures c.in_err-first_slot.was)

pub returns : goal.returns
returns c = read_closed _ _ _ (rw c.new-tables.ensures at c.read_head.ensures) c.in_ok-f.was c.end_file.ensures c.in_ok-first_slot.was c.of-set.ensures
