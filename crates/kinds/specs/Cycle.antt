-- The cycle of a set, and its jobs.
use Rattle.std.specs.Prelude.{Bool, ◌&&◌, ℕ, ◌/◌, leb, Option, Some, None}
use Rattle.vocabulary.specs.Test.{pick}
use Rattle.vocabulary.specs.Least.{all}
use Rattle.vocabulary.specs.Total.{total}
use Rattle.vocabulary.specs.Multiple.{lcm, lcm_of}
use Rattle.kinds.specs.declared.Cycle.{Cycle}
use Rattle.kinds.specs.Limits.{holds, periods, longest_cycle, most_jobs}
use Rattle.kinds.specs.Tasks.{Tasks, period}

-- Rule R1.5: the cycle H is the least common multiple of all periods.
unfoldable pub cycle : Tasks → ℕ
cycle u = lcm_of (λ i. period u i) u.count

-- Rule R1.6: a task has H/T jobs in a cycle.
unfoldable pub jobs_of : Tasks → ℕ → ℕ
jobs_of u i = cycle u / period u i

-- the jobs of a cycle stand in order, by task, then job: those of the tasks before task i
unfoldable pub jobs_before : Tasks → ℕ → ℕ
jobs_before u i = total (jobs_of u) i

-- all of them
unfoldable pub jobs : Tasks → ℕ
jobs u = jobs_before u u.count

-- Rules R4.5 and R4.6: 5 is not answered.
unfoldable pub cycle_fits : Tasks → Bool
cycle_fits u = leb (cycle u) longest_cycle && leb (jobs u) most_jobs

-- ---- what the functions over lent tables answer
-- two periods' least common multiple, 0 where one of the two is no period
unfoldable pub multiple_of : ℕ → ℕ → ℕ
multiple_of a b = pick (holds periods a && holds periods b) (lcm a b) 0

-- periods in their range, no more than a table has
unfoldable pub periods_fit : Tasks → Bool
periods_fit u = leb u.count 64 && all (λ i. holds periods (period u i)) u.count

-- the cycle of periods that are in their range and make one of at most 6,000
unfoldable pub ticks_of : Tasks → Option ℕ
ticks_of u = pick (all (λ i. holds periods (period u i)) u.count && leb (cycle u) longest_cycle) (Some (cycle u)) None

abbrev pub cycle_is : Tasks → Cycle
cycle_is u = record { ticks = cycle u; jobs = jobs u }

-- the cycle of tasks that keep rule 5, with its jobs
unfoldable pub cycle_of : Tasks → Option Cycle
cycle_of u = pick (periods_fit u && cycle_fits u) (Some (cycle_is u)) None
