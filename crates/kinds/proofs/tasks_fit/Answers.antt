use mathlib.Core.Path.{sym, ap, ◌∙◌}
use Rattle.vocabulary.proofs.Least.{pass_from, pass_on, pass_end, all_fails}
use native.Mathlib.Nat.{lt_of_lt_of_le}
use Rattle.kinds.specs.Tasks.{task_in_lem}
use Rattle.kinds.specs.Sound.{attributes_fit, task_fits}
use Rattle.kinds.proofs.tasks_fit.Goals as goal

pub loop-i-init : goal.loop-i-init
loop-i-init c = pass_from _ _

pub returns-then-not-attributes_fit : goal.returns-then-not-attributes_fit
unfolding task_fits
returns-then-not-attributes_fit c = sym (all_fails _ _ _ c.loop-i-test.true (ap attributes_fit (sym (c.task_at.ensures ∙ task_in_lem _ _ (lt_of_lt_of_le c.loop-i-test.true c.requires))) ∙ sym c.attributes_fit.ensures ∙ c.if-not-attributes_fit.true))

pub loop-i-preserved : goal.loop-i-preserved
unfolding task_fits
loop-i-preserved c = pass_on _ _ _ c.loop-i.invariant c.loop-i-test.true (ap attributes_fit (sym (c.task_at.ensures ∙ task_in_lem _ _ (lt_of_lt_of_le c.loop-i-test.true c.requires))) ∙ sym c.attributes_fit.ensures ∙ c.if-not-attributes_fit.false)

pub returns : goal.returns
returns c = sym (pass_end _ _ _ c.loop-i.invariant c.loop-i-test.false)
