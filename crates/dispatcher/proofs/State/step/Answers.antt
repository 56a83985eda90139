use Rattle.dispatcher.proofs.LookLaws.{room_for, outcome_shown, outcome_refused}
use Rattle.dispatcher.proofs.State.step.Goals as goal

pub show_row-requires : goal.show_row-requires
show_row-requires c = room_for _ _ _ _ _ c.in-Ok.ensures

pub returns-in-Ok : goal.returns-in-Ok
returns-in-Ok c = outcome_shown _ _ _ _ _ c.in-Ok.ensures c.show_row.ensures

pub returns-in-Err : goal.returns-in-Err
returns-in-Err c = outcome_refused _ _ _ _ _ c.in-Err.ensures
