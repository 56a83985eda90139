use Prim.Native.Nat.{◌≤◌}
use mathlib.Core.Path.{◌≡◌}
use Rattle.vocabulary.specs.Table.{join}
use Rattle.kinds.specs.Tasks.{patterns_of, pairs_in}
use Rattle.writer.specs.FormatLaws.{pattern_bytes}
use Rattle.writer.specs.Wrote.{Wrote}
use Rattle.writer.proofs.bytes.emit_patterns.Given as goal

abbrev pub invariant-loop-k : goal.invariant-loop-k
invariant-loop-k l = (l.k ≤ l.n) × (l.used ≡ pairs_in l.headings l.k) × Wrote l.initial.out l.at (join (pattern_bytes (patterns_of l.n l.headings l.pairs)) l.k) l.out l.next
