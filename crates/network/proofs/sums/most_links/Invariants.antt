use Rattle.network.specs.Named.{Bounding}
use Rattle.kinds.specs.Tasks.{tasks_of, patterns_of}
use mathlib.Core.List.{[]}
use Rattle.network.proofs.sums.most_links.Given as goal

abbrev pub invariant-loop-k : goal.invariant-loop-k
invariant-loop-k l = Bounding l.h (tasks_of 0 l.tables.attributes) (patterns_of l.n l.tables.headings []) l.sum l.k
