use mathlib.Core.Path.{◌≡◌}
use Prim.Native.Nat.{◌≤◌, ◌-◌}
use Rattle.kinds.specs.Limits.{no_key}
use Rattle.heads.specs.Tables.{pairs_from}
use Rattle.heads.proofs.read_pairs.Given as goal

abbrev pub invariant-loop-j : goal.invariant-loop-j
invariant-loop-j l = (l.j ≤ l.end) × (pairs_from l.file (l.end - l.j) l.at l.low l.limit_a l.limit_b l.j l.pairs ≡ pairs_from l.file l.n l.start no_key l.limit_a l.limit_b l.used l.initial.pairs)
