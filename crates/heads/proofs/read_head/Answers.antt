use Rattle.std.proofs.lemmas.Result.{err_from_is_err_and}
use Rattle.heads.proofs.Bounds.{opening_low, middle_low}
use Rattle.heads.proofs.ReadIsSound.{periods_fit_lem}
use Rattle.heads.specs.LoopSteps.{by_opening, by_tasks, by_middle, by_patterns, by_links}
use Rattle.heads.proofs.read_head.Goals as goal

pub read_tasks-requires : goal.read_tasks-requires
read_tasks-requires c = opening_low _ _ _ _ _ c.read_opening.ensures c.in_ok-opening.was

pub read_middle-requires : goal.read_middle-requires
read_middle-requires c = periods_fit_lem _ _ _ _ _ (opening_low _ _ _ _ _ c.read_opening.ensures c.in_ok-opening.was) c.read_tasks.ensures c.in_ok-p1.was

pub read_patterns-requires : goal.read_patterns-requires
read_patterns-requires c = let w = middle_low _ _ _ _ _ _ c.read_middle.ensures c.in_ok-c.was in (opening_low _ _ _ _ _ c.read_opening.ensures c.in_ok-opening.was, w.0, w.1)

pub returns-in_err-opening : goal.returns-in_err-opening
returns-in_err-opening c =
    let e = err_from_is_err_and c.from_residual.result c.from_residual.ensures.1 in
    rw (e.1, e.2) (by_opening _ _ _ c.read_opening.ensures c.in_err-opening.was)

pub returns-in_err-p1 : goal.returns-in_err-p1
returns-in_err-p1 c =
    let e = err_from_is_err_and c.from_residual-in_err-p1.result c.from_residual-in_err-p1.ensures.1 in
    rw (e.1, e.2) (by_tasks _ _ _ _ c.read_opening.ensures c.in_ok-opening.was c.read_tasks.ensures c.in_err-p1.was)

pub returns-in_err-c : goal.returns-in_err-c
returns-in_err-c c =
    let e = err_from_is_err_and c.from_residual-in_err-c.result c.from_residual-in_err-c.ensures.1 in
    rw (e.1, e.2) (by_middle _ _ _ _ c.read_opening.ensures c.in_ok-opening.was c.read_tasks.ensures c.in_ok-p1.was c.read_middle.ensures c.in_err-c.was)

pub returns-in_err-p : goal.returns-in_err-p
returns-in_err-p c =
    let e = err_from_is_err_and c.from_residual-in_err-p.result c.from_residual-in_err-p.ensures.1 in
    rw (e.1, e.2)
    (by_patterns _ _ _ _ _ c.read_opening.ensures c.in_ok-opening.was c.read_tasks.ensures c.in_ok-p1.was c.read_middle.ensures c.in_ok-c.was c.read_patterns.ensures c.in_err-p.was)

pub returns : goal.returns
returns c = by_links _ _ _ _ _ c.read_opening.ensures c.in_ok-opening.was c.read_tasks.ensures c.in_ok-p1.was c.read_middle.ensures c.in_ok-c.was c.read_patterns.ensures c.in_ok-p.was c.close_head.ensures
