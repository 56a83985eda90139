use mathlib.Core.Path.{refl}
use Rattle.network.specs.Named.{name_from, name_some, name_hit, name_on, name_end}
use native.Mathlib.Omega.{arith}
use Rattle.network.proofs.sums.job_at.Goals as goal

pub loop-i-init : goal.loop-i-init
loop-i-init c = name_from _ _

pub nonzero_div-k : goal.nonzero_div-k
nonzero_div-k c = omega (arith, name_some _ _ _ _ _ 0 c.requires c.loop-i.invariant c.loop-i-test.true c.task_at-t.ensures)

pub overflow_cast-result : goal.overflow_cast-result
overflow_cast-result c = omega (arith, c.requires.few, c.loop-i-test.true)

pub overflow_cast-result-then-y-k : goal.overflow_cast-result-then-y-k
overflow_cast-result-then-y-k c = omega (arith, c.requires.low, c.loop-i.invariant.behind)

pub returns-then-y-k : goal.returns-then-y-k
returns-then-y-k c = name_hit _ _ _ _ _ _ c.requires c.loop-i.invariant c.loop-i-test.true c.task_at-t.ensures refl c.if-y-k.true

pub loop-i-preserved : goal.loop-i-preserved
loop-i-preserved c = name_on _ _ _ _ _ _ c.requires c.loop-i.invariant c.loop-i-test.true c.task_at-t.ensures refl c.if-y-k.false

pub overflow_cast-result-2 : goal.overflow_cast-result-2
overflow_cast-result-2 c = omega (arith, c.requires.few, c.loop-i.invariant.seeking.within)

pub overflow_cast-result-3 : goal.overflow_cast-result-3
overflow_cast-result-3 c = omega (arith, c.requires.low, c.loop-i.invariant.behind)

pub returns : goal.returns
returns c = name_end _ _ _ _ c.loop-i.invariant c.loop-i-test.false
