use Rattle.network.specs.LinkLists.{Spreading}
use Rattle.kinds.specs.Tasks.{patterns_of}
use Rattle.network.proofs.links.put_patterns.Given as goal

abbrev pub invariant-loop-k : goal.invariant-loop-k
invariant-loop-k l = Spreading l.h l.tables.attributes l.base (patterns_of l.n l.tables.headings l.tables.pairs) l.initial.links l.links l.e l.used l.k
