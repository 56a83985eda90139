use Rattle.network.specs.JobTimes.{over}
use Rattle.vocabulary.specs.Least.{Seeking}
use lib.ListN.{length}
use Rattle.network.proofs.times.first_over.Given as goal

abbrev pub invariant-loop-x : goal.invariant-loop-x
invariant-loop-x l = Seeking (over l.jobs) (length l.jobs) l.x
