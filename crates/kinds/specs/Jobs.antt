-- Jobs and their windows.
use Rattle.std.specs.Prelude.{Bool, ◌&&◌, ℕ, suc, ◌+◌, ◌-◌, ◌*◌, leb, ltb}
use Rattle.vocabulary.specs.Least.{least}
use Rattle.kinds.specs.Tasks.{Tasks, period, offset, deadline}
use Rattle.kinds.specs.Cycle.{jobs_before}

-- Rule R1.3: job k is released k periods after the first release.
unfoldable pub release : Tasks → ℕ → ℕ → ℕ
release u i k = offset u i + k * period u i

-- Rule R1.4: the job's own deadline, in true time,
unfoldable pub due : Tasks → ℕ → ℕ → ℕ
due u i k = release u i k + deadline u i

-- and its window, which ends before it.
unfoldable pub in_window : Tasks → ℕ → ℕ → ℕ → Bool
in_window u i k t = leb (release u i k) t && ltb t (due u i k)

-- ---- Rule R1.7: the jobs of a cycle by one number, in their order
unfoldable pub number_of_job : Tasks → ℕ → ℕ → ℕ
number_of_job u i k = jobs_before u i + k

-- and back: the task and the job that have number x
unfoldable pub task_of_job : Tasks → ℕ → ℕ
task_of_job u x = least (λ i. ltb x (jobs_before u (suc i))) u.count

unfoldable pub job_of_job : Tasks → ℕ → ℕ
job_of_job u x = x - jobs_before u (task_of_job u x)
