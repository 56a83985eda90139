use Rattle.network.specs.LinkLists.{Appended, pair_made}
use Rattle.vocabulary.specs.Table.{join}
use Prim.Native.Nat.{◌≤◌}
use Rattle.network.proofs.links.put_pairs.Given as goal

abbrev pub invariant-loop-q : goal.invariant-loop-q
invariant-loop-q l = (l.q ≤ l.m) × Appended (join (pair_made l.pairs l.start l.s) l.q) l.e l.at l.initial.links l.links
