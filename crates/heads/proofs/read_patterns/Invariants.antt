use mathlib.Core.Path.{◌≡◌}
use Prim.Native.Nat.{◌≤◌, ◌-◌, ◌*◌}
use Rattle.kinds.specs.Tasks.{tasks_of}
use Rattle.heads.specs.Tables.{pattern_tables, patterns_from}
use Rattle.heads.specs.Heads.{patterns_after}
use Rattle.heads.proofs.read_patterns.Given as goal

abbrev pub invariant-loop-i : goal.invariant-loop-i
invariant-loop-i l =
    (l.i ≤ l.f.patterns) × (l.done.used ≤ 1024) × (l.done.links ≤ 6144000 * l.i)
    × (patterns_from l.file l.f.edition (tasks_of l.f.tasks l.attributes) l.f.ticks (l.f.patterns - l.i) l.i l.done (pattern_tables l.headings l.pairs)
    ≡ patterns_after l.file l.start l.f l.attributes (pattern_tables l.initial.headings l.initial.pairs))
