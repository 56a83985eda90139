use native.Mathlib.Omega.{arith}
use mathlib.Core.Path.{refl}
use Rattle.judge.proofs.FirstJobLaws.{first_from, first_some, first_room, first_on, first_end}
use Rattle.judge.proofs.bases.put_first_jobs.Goals as goal

pub loop-i-init : goal.loop-i-init
loop-i-init c = first_from _ _ c.requires.1

pub offset_bounds-base-i : goal.offset_bounds-base-i
offset_bounds-base-i c = omega (arith, c.loop-i-test.true, c.requires.0.few)

pub bounds-base-i : goal.bounds-base-i
bounds-base-i c = omega (arith, c.loop-i-test.true, c.requires.0.few)

pub nonzero_div-a : goal.nonzero_div-a
nonzero_div-a c = omega (arith, first_some _ _ _ _ _ c.requires.0 c.loop-i.invariant c.loop-i-test.true c.task_at-t.ensures)

pub overflow_add-a : goal.overflow_add-a
overflow_add-a c = omega (arith, first_room _ _ _ _ _ c.requires.0 c.loop-i.invariant c.loop-i-test.true c.task_at-t.ensures refl)

pub loop-i-preserved : goal.loop-i-preserved
loop-i-preserved c = first_on _ _ _ _ _ c.requires.0 c.loop-i.invariant c.loop-i-test.true c.task_at-t.ensures refl

pub returns : goal.returns
returns c = first_end _ _ _ _ c.loop-i.invariant c.loop-i-test.false
