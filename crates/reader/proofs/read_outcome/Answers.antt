use Rattle.std.proofs.lemmas.Result.{err_from_is_err_and}
use Rattle.reader.proofs.Ways.{answer-refused, answer-ended}
use Rattle.reader.proofs.read_outcome.Goals as goal

pub returns-in_err-f : goal.returns-in_err-f
returns-in_err-f c =
    let e = err_from_is_err_and c.from_residual.result c.from_residual.ensures.1 in
    rw (e.1, e.2) (answer-refused _ _ _ (rw c.new-tables.ensures at c.read_head.ensures) c.in_err-f.was)

pub returns : goal.returns
returns c = answer-ended _ _ _ (rw c.new-tables.ensures at c.read_head.ensures) c.in_ok-f.was c.end_file.ensures
