use Rattle.network.specs.JobTimes.{jobs_from, jobs_place, jobs_low, jobs_small, jobs_on}
use Rattle.network.specs.Placed.{place_end}
use native.Mathlib.Omega.{arith}
use Rattle.network.proofs.times.put_jobs.Goals as goal

pub overflow_sub-z : goal.overflow_sub-z
overflow_sub-z c = c.requires.late

pub loop-n-init : goal.loop-n-init
loop-n-init c = jobs_from _ _ _ _ _ _ _

pub overflow_sub-jobs : goal.overflow_sub-jobs
overflow_sub-jobs c = jobs_low _ _ _ _ _ _ _ c.requires c.loop-n.invariant c.loop-n-test.true

pub overflow_add-b : goal.overflow_add-b
overflow_add-b c = omega (arith, jobs_place _ _ _ _ _ _ _ c.requires c.loop-n.invariant c.loop-n-test.true)

pub bounds-jobs-b : goal.bounds-jobs-b
bounds-jobs-b c = jobs_place _ _ _ _ _ _ _ c.requires c.loop-n.invariant c.loop-n-test.true

pub overflow_add-r : goal.overflow_add-r
overflow_add-r c = omega (arith, jobs_small _ _ _ _ _ _ _ c.requires c.loop-n.invariant c.loop-n-test.true)

pub loop-n-preserved : goal.loop-n-preserved
loop-n-preserved c = jobs_on _ _ _ _ _ _ _ c.requires c.loop-n.invariant c.loop-n-test.true

pub shape_of-jobs : goal.shape_of-jobs
shape_of-jobs c = c.loop-n.invariant.done.long

pub returns : goal.returns
returns c = place_end _ _ _ _ _ _ c.loop-n.invariant.done c.loop-n.invariant.within c.loop-n-test.false
