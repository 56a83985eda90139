use Rattle.std.proofs.lemmas.Result.{err_from_is_err_and}
use Rattle.dispatcher.proofs.LookLaws.{room_in_c, step_shown, step_refused}
use Rattle.dispatcher.proofs.step_head.Goals as goal

pub returns-in_err-shown : goal.returns-in_err-shown
returns-in_err-shown c =
    let p = err_from_is_err_and c.from_residual.result c.from_residual.ensures.1 in
    rw (p.1, p.2) (step_refused _ _ _ _ _ c.in_err-shown.ensures)

pub show_row-requires : goal.show_row-requires
show_row-requires c = room_in_c _ _ _ _ _ c.in_ok-shown.ensures

pub returns : goal.returns
returns c = step_shown _ _ _ _ _ c.in_ok-shown.ensures c.write.ensures c.show_row.ensures
