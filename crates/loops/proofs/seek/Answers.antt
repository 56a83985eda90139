use Rattle.graph.proofs.SearchRows.{search_found, search_on}
use Rattle.graph.proofs.SearchRows.{search_asks, search_end}
use native.Mathlib.Omega.{arith}
use mathlib.Core.Path.{◌∙◌}
use Rattle.loops.proofs.seek.Goals as goal

pub loop-x-init : goal.loop-x-init
loop-x-init c = c.requires.started

pub loops_at-requires : goal.loops_at-requires
loops_at-requires c = search_asks _ _ _ _ _ c.requires c.loop-x.invariant (omega (arith, c.loop-x.invariant.long, c.loop-x-test.true))

pub shape_of-jobs-then-loops_at : goal.shape_of-jobs-then-loops_at
shape_of-jobs-then-loops_at c = c.loops_at.ensures.long ∙ c.loop-x.invariant.long

pub returns-then-loops_at : goal.returns-then-loops_at
returns-then-loops_at c = search_found _ _ _ _ _ c.requires c.loop-x.invariant (omega (arith, c.loop-x.invariant.long, c.loop-x-test.true)) _ _ c.loops_at.ensures c.if-loops_at.true

pub loop-x-preserved : goal.loop-x-preserved
loop-x-preserved c = search_on _ _ _ _ _ c.requires c.loop-x.invariant (omega (arith, c.loop-x.invariant.long, c.loop-x-test.true)) _ _ c.loops_at.ensures c.if-loops_at.false

pub shape_of-jobs : goal.shape_of-jobs
shape_of-jobs c = c.loop-x.invariant.long

pub returns : goal.returns
returns c = search_end _ _ _ _ _ c.loop-x.invariant (omega (arith, c.loop-x.invariant.long, c.loop-x-test.false))
