use mathlib.Core.Path.{◌≡◌}
use Rattle.vocabulary.specs.Least.{Passing}
use Rattle.kinds.specs.Sound.{pair_key, pair_fits}
use Rattle.kinds.proofs.pairs_fit.Given as goal

abbrev pub invariant-loop-q : goal.invariant-loop-q
invariant-loop-q l = Passing (pair_fits l.pairs l.start l.limit_a l.limit_b) l.n l.q × (l.low ≡ pair_key l.pairs l.start l.q)
