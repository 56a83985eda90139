use Rattle.network.specs.LinkLists.{base_from, base_on, base_room, base_some, base_end}
use native.Mathlib.Omega.{arith}
use Rattle.network.proofs.links.fill_bases.Goals as goal

pub loop-i-init : goal.loop-i-init
loop-i-init c = base_from _ _ _ c.requires

pub bounds-base-i : goal.bounds-base-i
bounds-base-i c = omega (arith, c.requires.few, c.loop-i-test.true)

pub nonzero_div-b : goal.nonzero_div-b
nonzero_div-b c = omega (arith, base_some _ _ _ _ _ _ c.requires c.loop-i.invariant c.loop-i-test.true c.task_at-t.ensures)

pub overflow_add-b : goal.overflow_add-b
overflow_add-b c = omega (arith, base_room _ _ _ _ _ _ c.requires c.loop-i.invariant c.loop-i-test.true c.task_at-t.ensures)

pub loop-i-preserved : goal.loop-i-preserved
loop-i-preserved c = base_on _ _ _ _ _ _ c.requires c.loop-i.invariant c.loop-i-test.true c.task_at-t.ensures

pub returns : goal.returns
returns c = base_end _ _ _ _ _ c.loop-i.invariant c.loop-i-test.false
