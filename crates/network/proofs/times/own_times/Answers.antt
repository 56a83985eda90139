use mathlib.Core.Path.{refl}
use Rattle.network.specs.JobTimes.{own_from, own_some, own_jobs, own_fits, own_on, own_end}
use native.Mathlib.Omega.{arith}
use mathlib.Core.Path.{◌∙◌, sym}
use Rattle.network.proofs.times.own_times.Goals as goal

pub loop-i-init : goal.loop-i-init
loop-i-init c = own_from _ _ _ c.requires

pub nonzero_div-k : goal.nonzero_div-k
nonzero_div-k c = omega (arith, own_some _ _ _ _ _ _ c.requires c.loop-i.invariant c.loop-i-test.true c.task_at-t.ensures)

pub put_jobs-requires : goal.put_jobs-requires
put_jobs-requires c = own_jobs _ _ _ _ _ _ c.requires c.loop-i.invariant c.loop-i-test.true c.task_at-t.ensures refl

pub overflow_add-b : goal.overflow_add-b
overflow_add-b c = omega (arith, own_fits _ _ _ _ _ _ c.requires c.loop-i.invariant c.loop-i-test.true c.task_at-t.ensures refl)

pub loop-i-preserved : goal.loop-i-preserved
loop-i-preserved c = own_on _ _ _ _ _ _ c.requires c.loop-i.invariant c.loop-i-test.true c.task_at-t.ensures refl _ c.put_jobs.ensures

pub shape_of-jobs : goal.shape_of-jobs
shape_of-jobs c = c.loop-i.invariant.done.sized ∙ sym c.requires.sized

pub returns : goal.returns
returns c = own_end _ _ _ _ c.loop-i.invariant c.loop-i-test.false
