use Prim.Native.Nat.{◌+◌, ◌*◌, ◌≤◌}
use mathlib.Core.Path.{◌≡◌}
use lib.ListN.{length}
use Rattle.vocabulary.specs.Table.{join}
use Rattle.kinds.specs.Tasks.{patterns_of, pairs_in}
use Rattle.writer.specs.FormatLaws.{pattern_bytes}
use Rattle.writer.proofs.lengths.patterns_length.Given as goal

abbrev pub invariant-loop-k : goal.invariant-loop-k
invariant-loop-k l = (l.k ≤ l.n) × (l.used ≡ pairs_in l.headings l.k) × (l.total ≡ length (join (pattern_bytes (patterns_of l.n l.headings l.pairs)) l.k)) × (l.total ≤ 9 * l.k + 6 * l.used) × (l.used ≤ 1024)
