use Rattle.graph.proofs.SearchRows.{probe_low, probe_place, probe_asks, probe_found, probe_on}
use Rattle.graph.proofs.SearchRows.{probe_end}
use native.Mathlib.Omega.{arith}
use mathlib.Core.Path.{◌∙◌}
use Rattle.loops.proofs.probe.Goals as goal

pub loop-at-init : goal.loop-at-init
loop-at-init c = c.requires.started

pub offset_bounds-jobs-at : goal.offset_bounds-jobs-at
offset_bounds-jobs-at c = omega (arith, c.requires.few_jobs, probe_low _ _ _ _ c.requires _ _ _ c.loop-at.invariant c.loop-at-test.true, c.loop-at-test.true)

pub slice_copy_out-r : goal.slice_copy_out-r
slice_copy_out-r c = probe_place _ _ _ _ c.requires _ _ _ c.loop-at.invariant c.loop-at-test.true

pub walk-requires : goal.walk-requires
walk-requires c = probe_asks _ _ _ _ c.requires _ _ _ c.loop-at.invariant c.loop-at-test.true c.wide.ensures.0

pub shape_of-jobs-in_default : goal.shape_of-jobs-in_default
shape_of-jobs-in_default c = c.in_default.ensures.long ∙ c.loop-at.invariant.long

pub returns-in_default : goal.returns-in_default
returns-in_default c = probe_found _ _ _ _ c.requires _ _ _ c.loop-at.invariant c.loop-at-test.true c.wide.ensures.0 _ c.in_default.ensures

pub overflow_add-at : goal.overflow_add-at
overflow_add-at c = omega (arith, c.requires.few_jobs, probe_low _ _ _ _ c.requires _ _ _ c.loop-at.invariant c.loop-at-test.true, c.loop-at-test.true)

pub loop-at-smaller : goal.loop-at-smaller
loop-at-smaller c = omega (arith, probe_low _ _ _ _ c.requires _ _ _ c.loop-at.invariant c.loop-at-test.true, c.loop-at-test.true)

pub loop-at-preserved : goal.loop-at-preserved
loop-at-preserved c = probe_on _ _ _ _ c.requires _ _ _ c.loop-at.invariant c.loop-at-test.true c.wide.ensures.0 _ c.in-Some.ensures

pub shape_of-jobs : goal.shape_of-jobs
shape_of-jobs c = c.loop-at.invariant.long

pub returns : goal.returns
returns c = probe_end _ _ _ _ c.requires _ _ _ c.loop-at.invariant c.loop-at-test.false
