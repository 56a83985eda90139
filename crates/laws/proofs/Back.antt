-- From a number back to its job: every number below the cycle's jobs is that of one job of one task.
use Rattle.std.specs.Prelude.{◌≡◌, refl, ℕ, zero, suc, ◌-◌, ◌<◌, ◌≤◌}
use Rattle.std.proofs.Common.{ap, arith}
use Rattle.std.proofs.Math.Dec.{ltb}
use borrow.Author.Tests.{ltb-true, ltb-false}
use Rattle.vocabulary.specs.Least.{Least}
use Rattle.vocabulary.proofs.Least.{least_is}
use Rattle.vocabulary.proofs.Total.{total_none}
use Rattle.kinds.specs.Tasks.{Tasks}
use Rattle.kinds.specs.Cycle.{jobs_of, jobs_before, jobs}
use Rattle.kinds.specs.Jobs.{number_of_job, task_of_job, job_of_job}
use Rattle.laws.proofs.Order.{before_suc, number_sum, task_low}

before_none : (u : Tasks) → jobs_before u 0 ≡ 0
unfolding jobs_before
before_none u = total_none (jobs_of u)

module _ (u : Tasks) (x : ℕ) (l : x < jobs u) where
  abbrev i : ℕ
  i = task_of_job u x

  found : Least (λ j. ltb x (jobs_before u (suc j))) u.count i
  unfolding task_of_job
  found = least_is (λ j. ltb x (jobs_before u (suc j))) u.count

  -- the number lies from its task's first job on
  from_first : jobs_before u i ≤ x
  from_first = go i refl
    where
      go : (j : ℕ) → i ≡ j → jobs_before u i ≤ x
      go zero e = omega (arith, ap (jobs_before u) e, before_none u)
      go (suc j) e = omega (arith, ap (jobs_before u) e, ltb-false x (jobs_before u (suc j)) (found.before j (omega arith)))

  pub job_of_low : job_of_job u x < jobs_of u (task_of_job u x)
  unfolding job_of_job
  job_of_low = omega (arith, from_first, before_suc u i, ltb-true x (jobs_before u (suc i)) (found.found (task_low u x l)))

  pub number_back : number_of_job u (task_of_job u x) (job_of_job u x) ≡ x
  unfolding job_of_job
  number_back = omega (arith, from_first, number_sum u i (x - jobs_before u i))
