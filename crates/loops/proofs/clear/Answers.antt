use Rattle.loops.proofs.LentLaws.{rows_cleared}
use Rattle.graph.proofs.SearchRows.{clear_from, clear_on}
use native.Mathlib.Omega.{arith}
use Rattle.loops.proofs.clear.Goals as goal

pub loop-i-init : goal.loop-i-init
loop-i-init c = clear_from _

pub loop-i-preserved : goal.loop-i-preserved
loop-i-preserved c = clear_on _ _ _ c.loop-i.invariant (omega (arith, c.loop-i.invariant.long, c.loop-i-test.true))

pub shape_of-jobs : goal.shape_of-jobs
shape_of-jobs c = c.loop-i.invariant.long

pub returns : goal.returns
returns c = rows_cleared _ _ _ c.loop-i.invariant (omega (arith, c.loop-i.invariant.long, c.loop-i-test.false))
