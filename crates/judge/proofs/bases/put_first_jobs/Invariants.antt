use Rattle.kinds.specs.Tasks.{tasks_of}
use Rattle.judge.proofs.FirstJobLaws.{FirstJobsTo}
use Rattle.judge.proofs.bases.put_first_jobs.Given as goal

abbrev pub invariant-loop-i : goal.invariant-loop-i
invariant-loop-i l = FirstJobsTo (tasks_of l.f.tasks l.attributes) l.i l.a l.base
