use mathlib.Core.Path.{sym, ◌∙◌, refl}
use Rattle.vocabulary.proofs.Least.{pass_from, pass_on, pass_end, all_fails}
use Rattle.kinds.specs.Sound.{pair_key}
use Rattle.kinds.specs.RangeLaws.{pair_key_more, pair_fits_lem}
use Rattle.kinds.proofs.pairs_fit.Goals as goal

pub loop-q-init : goal.loop-q-init
unfolding pair_key
loop-q-init c = (pass_from _ _, refl)

pub returns-then-not-is_rising : goal.returns-then-not-is_rising
returns-then-not-is_rising c =
    let v = c.loop-q.invariant in
    let a = c.wide16-a.ensures.0 in
    let b = c.wide16-b.ensures.0 in
    sym (all_fails _ _ _ c.loop-q-test.true (sym (pair_fits_lem _ _ _ _ _ v.1 a b c.is_rising.ensures) ∙ c.if-not-is_rising.true))

pub loop-q-preserved : goal.loop-q-preserved
loop-q-preserved c =
    let v = c.loop-q.invariant in
    let a = c.wide16-a.ensures.0 in
    let b = c.wide16-b.ensures.0 in
    (pass_on _ _ _ v.0 c.loop-q-test.true (sym (pair_fits_lem _ _ _ _ _ v.1 a b c.is_rising.ensures) ∙ c.if-not-is_rising.false), sym (pair_key_more _ _ _ ∙ rw (← a, ← b)))

pub returns : goal.returns
returns c = sym (pass_end _ _ _ c.loop-q.invariant.0 c.loop-q-test.false)
