use Rattle.dispatcher.proofs.ByteLoops.{Reading}
use Rattle.dispatcher.proofs.bytes.number_in.Given as goal

abbrev pub invariant-loop-k : goal.invariant-loop-k
invariant-loop-k l = Reading l.bytes l.at l.n l.k l.x
