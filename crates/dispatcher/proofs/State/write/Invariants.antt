use lib.ListN.{get_or}
use Rattle.vocabulary.specs.Table.{Filling, is}
use Rattle.dispatcher.specs.Bytes.{bytes_of}
use Rattle.dispatcher.proofs.State.write.Given as goal

abbrev pub invariant-loop-k : goal.invariant-loop-k
invariant-loop-k l = Filling (is (λ j. get_or (bytes_of l.self) j 0)) 21 l.k 0 l.out
