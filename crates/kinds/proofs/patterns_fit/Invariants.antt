use Rattle.kinds.specs.Build.{lent_tasks, lent_patterns}
use Rattle.kinds.proofs.PatternWalk.{Walking}
use Rattle.kinds.proofs.patterns_fit.Given as goal

abbrev pub invariant-loop-k : goal.invariant-loop-k
invariant-loop-k l =
    Walking l.f.edition (lent_tasks l.f l.tables) (lent_patterns l.f l.tables) l.k l.low l.used l.links
