use mathlib.Core.Path.{◌≡◌}
use Prim.Native.Nat.{◌*◌, ◌≤◌}
use Rattle.kinds.specs.Tasks.{pairs_in}
use Rattle.kinds.proofs.pairs_in.Given as goal

abbrev pub invariant-loop-k : goal.invariant-loop-k
invariant-loop-k l = (l.k ≤ l.n) × (l.total ≡ pairs_in l.headings l.k) × (l.total ≤ 4294967295 * l.k)
