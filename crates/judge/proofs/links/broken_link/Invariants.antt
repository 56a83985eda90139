use mathlib.Core.Path.{◌≡◌}
use Prim.Native.Nat.{◌+◌, ◌*◌}
use Rattle.vocabulary.specs.Least.{Seeking}
use Rattle.kinds.specs.Tasks.{first_in, second_in}
use Rattle.kinds.specs.Links.{repeats}
use Rattle.judge.specs.Rules.{breaks}
use Rattle.judge.specs.TableNeeds.{PairOf}
use Rattle.judge.proofs.links.broken_link.Given as goal

abbrev pub invariant-loop-n : goal.invariant-loop-n
invariant-loop-n l = (l.i ≡ first_in l.pairs l.x + l.n * l.g.first)
    × (l.j ≡ second_in l.pairs l.x + l.n * l.g.second)
    × ((w : PairOf l.pairs l.rows l.g l.x) → Seeking (breaks w.tasks w.patterns w.plan w.pattern w.pair) (repeats w.tasks w.patterns w.pattern) l.n)
