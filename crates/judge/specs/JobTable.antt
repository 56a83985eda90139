-- What the table of jobs tells, once the walk over the slots has come to its end.
use Rattle.std.specs.Prelude.{◌≡◌, List, ℕ, ◌<◌, length}
use Rattle.vocabulary.specs.Tally.{count_at, first_at, last_at}
use Rattle.kinds.specs.Tasks.{Tasks}
use Rattle.kinds.specs.Cycle.{jobs_of, jobs}
use Rattle.kinds.specs.Jobs.{number_of_job}
use Rattle.kinds.specs.Plans.{Plan, ticks}
use Rattle.kinds.specs.JobTicks.{Gets}

-- Row x has what a job gets; with a count of 0 it has no times, and the job no ticks.
pub record RowGets (u : Tasks) (p : Plan) (i k : ℕ) (rows : List (List ℕ)) (x : ℕ) : Type 0 where
  pub some : 0 < count_at rows x → Gets u p i k (count_at rows x) (first_at rows x) (last_at rows x)
  pub none : count_at rows x ≡ 0 → ticks u p i k ≡ 0

-- There is such a row for each job of the cycle, by its number.
pub record EachJobGets (u : Tasks) (p : Plan) (rows : List (List ℕ)) : Type 0 where
  pub long : length rows ≡ jobs u
  pub each : (i k : ℕ) → i < u.count → k < jobs_of u i → RowGets u p i k rows (number_of_job u i k)
