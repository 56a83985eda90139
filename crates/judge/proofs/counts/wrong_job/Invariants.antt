use Rattle.vocabulary.specs.Least.{Seeking}
use Rattle.kinds.specs.Cycle.{jobs_of}
use Rattle.judge.specs.Rules.{miscounts}
use Rattle.judge.specs.TableNeeds.{Tells}
use Rattle.judge.proofs.counts.wrong_job.Given as goal

abbrev pub invariant-loop-k : goal.invariant-loop-k
invariant-loop-k l = (t : Tells l.rows l.l) → Seeking (miscounts t.tasks t.plan t.task) (jobs_of t.tasks t.task) l.k
