use Rattle.std.proofs.Common.{rules}
use Rattle.numbers.specs.Numbers.{and_then}
use Rattle.heads.specs.Heads.{middle_from}
use Rattle.heads.proofs.Bounds.{cycle_broken, cycle_kept}
use Rattle.heads.proofs.read_middle.Goals as goal

pub returns-in_default : goal.returns-in_default
unfolding middle_from
returns-in_default c = simp (cycle_broken _ c.requires c.in_default.ensures)

pub returns-in_err-k : goal.returns-in_err-k
unfolding middle_from and_then
returns-in_err-k c = let w = cycle_kept _ c.requires c.in-Some.ensures in search rules

pub returns : goal.returns
unfolding middle_from and_then
returns c =
    let w = cycle_kept _ c.requires c.in-Some.ensures in
    simp (w.0, ← w.1, ← c.read_within.ensures, c.in_ok-k.was)
