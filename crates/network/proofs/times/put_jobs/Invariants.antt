use Rattle.network.specs.JobTimes.{JobsMade}
use Rattle.network.proofs.times.put_jobs.Given as goal

abbrev pub invariant-loop-n : goal.invariant-loop-n
invariant-loop-n l = JobsMade l.b l.k l.c l.d l.z l.initial.r l.initial.jobs l.jobs l.r l.n
