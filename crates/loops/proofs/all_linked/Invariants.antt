use Rattle.std.specs.Prelude.{length}
use Rattle.vocabulary.specs.Least.{Passing}
use Rattle.loops.specs.LentLinks.{inside}
use Rattle.loops.proofs.all_linked.Given as goal

abbrev pub invariant-loop-l : goal.invariant-loop-l
invariant-loop-l l = Passing (inside l.links l.n) (length l.links) l.l-index
