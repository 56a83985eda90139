use Rattle.graph.proofs.SearchRows.{walk_asks, walk_next, walk_less}
use Rattle.graph.proofs.SearchRows.{walk_from_lem, walk_end}
use Rattle.graph.proofs.SearchRows.{walk_asks, walk_next}
use Rattle.graph.proofs.SearchRows.{walk_from_lem, walk_end}
use Rattle.loops.proofs.walk.Goals as goal

pub loop-i-init : goal.loop-i-init
loop-i-init c = walk_from_lem _ _ _ _ _ _ c.requires c.wide-i.ensures.0

pub visit_job-requires : goal.visit_job-requires
visit_job-requires c = walk_asks _ _ _ _ _ _ c.requires _ _ _ c.loop-i.invariant c.loop-i-test.true

pub bounds-next-i : goal.bounds-next-i
bounds-next-i c = walk_next _ _ _ _ _ _ c.requires _ _ _ c.loop-i.invariant c.loop-i-test.true

pub loop-i-smaller : goal.loop-i-smaller
loop-i-smaller c = walk_less _ _ _ _ _ _ c.requires _ _ _ c.loop-i.invariant c.loop-i-test.true c.from-i.ensures

pub shape_of-jobs : goal.shape_of-jobs
shape_of-jobs c = c.loop-i.invariant.long

pub returns : goal.returns
returns c = walk_end _ _ _ _ _ _ c.requires _ _ _ c.loop-i.invariant c.loop-i-test.false
