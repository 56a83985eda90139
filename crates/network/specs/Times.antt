-- Adjusted releases and deadlines, per job of one cycle.
use Rattle.std.specs.Prelude.{◌≡◌, ℕ, ◌<◌, ℤ}
use Rattle.graph.specs.Longest.{Solves, rounds}
use Rattle.graph.specs.Soonest as soonest
use Rattle.kinds.specs.Tasks.{Tasks, Patterns, running}
use Rattle.kinds.specs.Jobs.{release, due, task_of_job, job_of_job}
use Rattle.network.specs.Network.{network}

-- the release, deadline and running time of the job with number x
unfoldable pub own_release : Tasks → ℕ → ℕ
own_release u x = release u (task_of_job u x) (job_of_job u x)

unfoldable pub own_due : Tasks → ℕ → ℕ
own_due u x = due u (task_of_job u x) (job_of_job u x)

unfoldable pub own_running : Tasks → ℕ → ℕ
own_running u x = running u (task_of_job u x)

-- ---- releases over a weight: what each job's adjusted release gains on the way to its successors
abbrev pub Weight : Type 0
Weight = Tasks → ℕ → ℕ

-- families of which each number is the greatest of the job's own release and, for each predecessor, its number plus its weight
pub record ReleasesBy (w : Weight) (u : Tasks) (v : Patterns) (r : ℕ → ℕ) : Type 0 where
  pub solves : Solves (network u v) (own_release u) (w u) r

-- the same computed, in as many rounds as there are jobs. Where no links make a cycle these satisfy the equations, and nothing else does
unfoldable pub release_by : Weight → Tasks → Patterns → ℕ → ℕ
release_by w u v x = rounds (network u v) (own_release u) (w u) (network u v).n x

-- Rule R8.3: the weight is the running time. Adjusted releases are those of which each is the greatest of the job's own release and, for each
-- predecessor, its adjusted release plus its C.
abbrev pub AdjustedReleases : Tasks → Patterns → (ℕ → ℕ) → Type 0
AdjustedReleases u v r = ReleasesBy own_running u v r

abbrev pub adjusted_release : Tasks → Patterns → ℕ → ℕ
adjusted_release u v x = release_by own_running u v x

-- Rule R8.2: adjusted deadlines are those of which each is the least of the job's own deadline and each successor's adjusted one less its C.
pub record AdjustedDeadlines (u : Tasks) (v : Patterns) (d : ℕ → ℤ) : Type 0 where
  pub solves : (x : ℕ) → x < (network u v).n → d x ≡ soonest.due (network u v) (own_due u) (own_running u) d x

-- the same computed
unfoldable pub adjusted_deadline : Tasks → Patterns → ℕ → ℤ
adjusted_deadline u v x = soonest.soonest (network u v) (own_due u) (own_running u) (network u v).n x
