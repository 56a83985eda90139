use mathlib.Core.Path.{sym}
use native.Mathlib.Omega.{arith}
use Rattle.dispatcher.proofs.LookLaws.{part_none, part_all}
use Rattle.dispatcher.proofs.leaves.part_of.Goals.{then-bytes-at-via-then-bytes-at, then-bytes-at-via-else-bytes-at+then-bytes-at-2}
use Rattle.dispatcher.proofs.leaves.part_of.Goals as goal

pub returns-then-bytes-at : goal.returns-then-bytes-at
returns-then-bytes-at c = elim c.then-bytes-at.branch [
  | then-bytes-at-via-then-bytes-at w ↦ sym (part_none _ _ _ (omega (arith, w.if-bytes-at.true)))
  | then-bytes-at-via-else-bytes-at+then-bytes-at-2 w ↦ sym (part_none _ _ _ (omega (arith, w.if-bytes-at.false, w.if-bytes-at-2.true)))
]

pub returns : goal.returns
returns c = part_all _ _ _ (omega arith)
