use Rattle.network.specs.JobTimes.{signed_release, signed_due}
use Rattle.vocabulary.specs.Table.{Filling, is}
use lib.IntN.{pos}
use lib.ListN.{length}
use Rattle.network.proofs.times.write_times.Given as goal

abbrev pub invariant-loop-x : goal.invariant-loop-x
invariant-loop-x l =
    (Filling (is (signed_release l.jobs)) (length l.jobs) l.x (pos 0) l.releases) × (Filling (is (signed_due l.jobs)) (length l.jobs) l.x (pos 0) l.deadlines)
