use mathlib.Core.Path.{sym, ◌∙◌, ap}
use native.Mathlib.Nat.{le_antisymm}
use native.Mathlib.Omega.{arith}
use Rattle.kinds.specs.Tasks.{pairs_in}
use Rattle.kinds.specs.RangeLaws.{pairs_none, pairs_more}
use borrow.Author.Rules.{rules}
use Rattle.kinds.proofs.pairs_in.Goals as goal

pub loop-k-init : goal.loop-k-init
loop-k-init c = (search rules, sym (pairs_none _), search rules)

pub loop-k-preserved : goal.loop-k-preserved
loop-k-preserved c =
    let l = c.loop-k in
    (omega arith, rw (pairs_more, ← l.invariant.1, c.wide-total.ensures.0), omega (arith, c.wide-total.ensures))

pub returns : goal.returns
returns c = c.loop-k.invariant.1 ∙ ap (pairs_in _) (le_antisymm c.loop-k.invariant.0 c.loop-k-test.false)
