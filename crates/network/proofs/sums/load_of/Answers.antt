use Rattle.network.specs.Named.{load_from, load_some, load_low, load_on, load_room, load_end}
use native.Mathlib.Omega.{arith}
use Rattle.network.proofs.sums.load_of.Goals as goal

pub loop-i-init : goal.loop-i-init
loop-i-init c = load_from _ _

pub nonzero_div-sum : goal.nonzero_div-sum
nonzero_div-sum c = omega (arith, load_some _ _ _ _ c.requires c.loop-i.invariant c.loop-i-test.true c.task_at-t.ensures)

pub overflow_mul-sum : goal.overflow_mul-sum
overflow_mul-sum c = omega (arith, load_low _ _ _ _ c.requires c.loop-i.invariant c.loop-i-test.true c.task_at-t.ensures)

pub overflow_add-sum : goal.overflow_add-sum
overflow_add-sum c = omega (arith, load_room _ _ _ _ c.requires c.loop-i.invariant c.loop-i-test.true c.task_at-t.ensures)

pub loop-i-preserved : goal.loop-i-preserved
loop-i-preserved c = load_on _ _ _ _ c.requires c.loop-i.invariant c.loop-i-test.true c.task_at-t.ensures

pub returns : goal.returns
returns c = load_end _ _ _ _ c.loop-i.invariant c.loop-i-test.false
