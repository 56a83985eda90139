use mathlib.Core.Path.{refl}
use Rattle.network.specs.LinkLists.{turns_are, steps_from, steps_low₁, steps_low₂, steps_place, steps_on, steps_end}
use native.Mathlib.Omega.{arith}
use Rattle.network.proofs.links.put_steps.Goals as goal

pub nonzero_div-c : goal.nonzero_div-c
nonzero_div-c c = c.requires.some

pub overflow_sub-c : goal.overflow_sub-c
overflow_sub-c c = omega (arith, c.requires.reach)

pub overflow_add-x : goal.overflow_add-x
overflow_add-x c = omega (arith, c.requires.low₁)

pub overflow_add-y : goal.overflow_add-y
overflow_add-y c = omega (arith, c.requires.low₂)

pub loop-n-init : goal.loop-n-init
loop-n-init c = steps_from _ _ _ _ _ _ _

pub overflow_cast-links : goal.overflow_cast-links
overflow_cast-links c = omega (arith, steps_low₁ _ _ _ _ _ _ _ _ _ _ c.requires (turns_are _ _ refl) c.loop-n.invariant c.loop-n-test.true)

pub overflow_cast-links-in-loop-n : goal.overflow_cast-links-in-loop-n
overflow_cast-links-in-loop-n c = omega (arith, steps_low₂ _ _ _ _ _ _ _ _ _ _ c.requires (turns_are _ _ refl) c.loop-n.invariant c.loop-n-test.true)

pub overflow_add-e : goal.overflow_add-e
overflow_add-e c = omega (arith, steps_place _ _ _ _ _ _ _ _ _ _ c.requires (turns_are _ _ refl) c.loop-n.invariant c.loop-n-test.true)

pub bounds-links-e : goal.bounds-links-e
bounds-links-e c = steps_place _ _ _ _ _ _ _ _ _ _ c.requires (turns_are _ _ refl) c.loop-n.invariant c.loop-n-test.true

pub overflow_add-x-in-loop-n : goal.overflow_add-x-in-loop-n
overflow_add-x-in-loop-n c = omega (arith, steps_low₁ _ _ _ _ _ _ _ _ _ _ c.requires (turns_are _ _ refl) c.loop-n.invariant c.loop-n-test.true)

pub overflow_add-y-in-loop-n : goal.overflow_add-y-in-loop-n
overflow_add-y-in-loop-n c = omega (arith, steps_low₂ _ _ _ _ _ _ _ _ _ _ c.requires (turns_are _ _ refl) c.loop-n.invariant c.loop-n-test.true)

pub loop-n-preserved : goal.loop-n-preserved
loop-n-preserved c = steps_on _ _ _ _ _ _ _ _ _ _ c.requires (turns_are _ _ refl) c.loop-n.invariant c.loop-n-test.true

pub shape_of-links : goal.shape_of-links
shape_of-links c = c.loop-n.invariant.done.long

pub returns : goal.returns
returns c = steps_end _ _ _ _ _ _ (turns_are _ _ refl) c.loop-n.invariant c.loop-n-test.false
