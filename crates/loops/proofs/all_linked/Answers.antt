use mathlib.Core.Path.{sym}
use Rattle.vocabulary.proofs.Least.{pass_from, pass_on, pass_end, all_fails}
use Rattle.loops.proofs.LentLaws.{start_over, end_over, is_inside}
use Rattle.loops.specs.LentLinks.{linked}
use Rattle.loops.proofs.all_linked.Goals as goal

pub loop-l-init : goal.loop-l-init
loop-l-init c = pass_from _ _

pub returns-then-n-from : goal.returns-then-n-from
unfolding linked
returns-then-n-from c = sym (all_fails _ _ _ c.loop-l-test.true (start_over _ _ _ c.from.ensures c.if-n-from.true))

pub returns-then-n-from-2 : goal.returns-then-n-from-2
unfolding linked
returns-then-n-from-2 c = sym (all_fails _ _ _ c.loop-l-test.true (end_over _ _ _ c.from.ensures c.if-n-from.false c.from-in-loop-l.ensures c.if-n-from-2.true))

pub loop-l-preserved : goal.loop-l-preserved
loop-l-preserved c = pass_on _ _ _ c.loop-l.invariant c.loop-l-test.true (is_inside _ _ _ c.from.ensures c.if-n-from.false c.from-in-loop-l.ensures c.if-n-from-2.false)

pub returns : goal.returns
unfolding linked
returns c = sym (pass_end _ _ _ c.loop-l.invariant c.loop-l-test.false)
