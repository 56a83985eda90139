use Rattle.dispatcher.proofs.ByteLoops.{Reading}
use Rattle.flute_play.proofs.report_at.Given as goal

-- The bytes from k on are read.
abbrev pub invariant-loop-k : goal.invariant-loop-k
invariant-loop-k l = Reading l.bytes l.at 8 l.k l.x
