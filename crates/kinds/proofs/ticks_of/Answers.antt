use mathlib.Core.Path.{sym, ◌∙◌, ap, subst}
use Prim.Native.Nat.{ℕ, ◌<◌}
use native.Mathlib.Nat.{le_antisymm}
use native.Mathlib.Omega.{arith}
use Rattle.vocabulary.proofs.Least.{pass_from, pass_on, pass_end}
use Rattle.vocabulary.specs.Multiple.{lcm_of}
use Rattle.vocabulary.proofs.Multiple.{lcm_of_none}
use Rattle.kinds.specs.Tasks.{tasks_of}
use Rattle.kinds.specs.RangeLaws.{ticks_broken, ticks_long, ticks_end, ticks_more, ticks_stop}
use borrow.Author.Rules.{rules}
use Rattle.kinds.proofs.ticks_of.Goals as goal

pub loop-i-init : goal.loop-i-init
loop-i-init c = (pass_from _ _, sym (lcm_of_none _), search rules, search rules)

pub returns-then-h-eq0 : goal.returns-then-h-eq0
returns-then-h-eq0 c =
    let v = c.loop-i.invariant in
    ticks_broken _ _ c.loop-i-test.true (ticks_stop _ _ v.2 v.3 c.common_multiple-h.ensures c.if-h-eq0.true)

pub returns-then-h-gt-LONGEST : goal.returns-then-h-gt-LONGEST
returns-then-h-gt-LONGEST c =
    let w = ticks_more (tasks_of c.args.n c.args.attributes.now) c.loop-i.i c.loop-i.invariant.1 c.common_multiple-h.ensures c.if-h-eq0.false in
    ticks_long _ _ c.loop-i-test.true (subst (λ (x : ℕ). 6000 < x) w.1 c.if-h-gt-LONGEST.true)

pub loop-i-preserved : goal.loop-i-preserved
loop-i-preserved c =
    let v = c.loop-i.invariant in
    let w = ticks_more (tasks_of c.args.n c.args.attributes.now) c.loop-i.i v.1 c.common_multiple-h.ensures c.if-h-eq0.false in
    (pass_on _ _ _ v.0 c.loop-i-test.true w.0, w.1, omega arith, c.if-h-gt-LONGEST.false)

pub returns : goal.returns
returns c =
    let v = c.loop-i.invariant in
    ticks_end _ (pass_end _ _ _ v.0 c.loop-i-test.false) (v.1 ∙ ap (lcm_of _) (le_antisymm v.0.within c.loop-i-test.false)) v.3
