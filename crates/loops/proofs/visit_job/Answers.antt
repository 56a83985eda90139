use Rattle.graph.proofs.SearchRows.{visit_seen, visit_room, visit_new}
use Rattle.graph.proofs.SearchRows.{visit_place, visit_found, visit_below, visit_low}
use Rattle.graph.proofs.SearchRows.{visit_seen, visit_room, visit_new}
use Rattle.graph.proofs.SearchRows.{visit_place, visit_found, visit_below}
use mathlib.Core.Path.{sym, ◌∙◌}
use native.Mathlib.Omega.{arith}
use Rattle.loops.proofs.visit_job.Goals as goal

pub returns-then-y-x : goal.returns-then-y-x
returns-then-y-x c = visit_found _ _ _ _ _ c.requires c.from-y.ensures c.if-y-x.true

pub returns-then-y-x-2 : goal.returns-then-y-x-2
returns-then-y-x-2 c = visit_below _ _ _ _ _ c.requires c.from-y.ensures c.if-y-x-2.true

pub slice_copy_out-r : goal.slice_copy_out-r
slice_copy_out-r c = visit_place _ _ _ _ _ c.requires c.from-y.ensures

pub returns-then-wide-x : goal.returns-then-wide-x
returns-then-wide-x c = visit_seen _ _ _ _ _ c.requires c.from-y.ensures c.if-y-x.false (sym c.wide.ensures.0 ∙ c.if-wide-x.true)

pub bounds-jobs-y : goal.bounds-jobs-y
bounds-jobs-y c = visit_place _ _ _ _ _ c.requires c.from-y.ensures

pub offset_bounds-jobs-tail : goal.offset_bounds-jobs-tail
offset_bounds-jobs-tail c = omega (arith, visit_low _ _ _ _ _ c.requires c.from-y.ensures)

pub slice_copy_out-q : goal.slice_copy_out-q
slice_copy_out-q c = visit_room _ _ _ _ _ c.requires c.from-y.ensures c.if-y-x.false (λ e. c.if-wide-x.false (c.wide.ensures.0 ∙ e))

pub offset_bounds-jobs-tail-2 : goal.offset_bounds-jobs-tail-2
offset_bounds-jobs-tail-2 c = omega (arith, visit_low _ _ _ _ _ c.requires c.from-y.ensures)

pub bounds-jobs-tail : goal.bounds-jobs-tail
bounds-jobs-tail c = visit_room _ _ _ _ _ c.requires c.from-y.ensures c.if-y-x.false (λ e. c.if-wide-x.false (c.wide.ensures.0 ∙ e))

pub overflow_add-result : goal.overflow_add-result
overflow_add-result c = omega (arith, visit_low _ _ _ _ _ c.requires c.from-y.ensures)

pub returns : goal.returns
returns c = visit_new _ _ _ _ _ c.requires c.from-y.ensures c.if-y-x.false (λ e. c.if-wide-x.false (c.wide.ensures.0 ∙ e))
