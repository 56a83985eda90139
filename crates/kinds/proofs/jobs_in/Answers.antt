use mathlib.Core.Path.{sym, ◌∙◌, ap}
use Prim.Native.Nat.{◌*◌}
use native.Mathlib.Nat.{div-le_self, le_antisymm}
use native.Mathlib.Omega.{arith}
use lib.ListN.{get_or}
use Rattle.vocabulary.specs.Total.{total as sum}
use Rattle.vocabulary.proofs.Total.{total_none, total_more}
use borrow.Author.Rules.{rules}
use Rattle.kinds.proofs.jobs_in.Goals as goal

pub loop-i-init : goal.loop-i-init
loop-i-init c = (search rules, sym (total_none _), search rules)

pub loop-i-preserved : goal.loop-i-preserved
loop-i-preserved c =
    let l = c.loop-i in
    (omega arith, rw (total_more, ← l.invariant.1), omega (arith, c.requires.1, div-le_self c.args.h (get_or c.args.attributes.now (4 * l.i) 0)))

pub returns : goal.returns
returns c = c.loop-i.invariant.1 ∙ ap (sum _) (le_antisymm c.loop-i.invariant.0 c.loop-i-test.false)
