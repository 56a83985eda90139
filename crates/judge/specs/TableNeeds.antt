-- What the parts of the judge ask of the tables: who they speak of, and what is known of them.
use Rattle.std.specs.Prelude.{◌≡◌, List, ℕ, ◌+◌, ◌/◌, ◌<◌, ◌≤◌, ◌*◌, get_or, length}
use Rattle.kinds.specs.Tasks.{Tasks, task_at, period, Patterns, tasks_of, from_task, to_task, pair_count, pairs_before}
use Rattle.kinds.specs.Cycle.{cycle, jobs_of, jobs_before, jobs, multiple_of}
use Rattle.kinds.specs.Plans.{Plan, ticks}
use Rattle.kinds.proofs.SoundFacts.{Sound}
use Rattle.kinds.specs.Links.{common, repeats}
use Rattle.judge.specs.declared.Lane.{Lane}
use Rattle.judge.specs.declared.LinkSteps.{LinkSteps}
use Rattle.judge.specs.JobOfSlot.{FirstJobs, Fit}
use Rattle.judge.specs.JobTable.{EachJobGets}

-- ---- the set and the plan
-- The rules from 12 on ask a sound set, its cycle, and a plan of the right length. The edition is not looked at, so any will do under which the set
-- is sound.
pub record PlanNeeds (u : Tasks) (v : Patterns) (p : Plan) : Type 0 where
  pub edition : ℕ
  pub sound : Sound (record { edition = edition; processors = p.processors; tasks = u; patterns = v })
  pub ticks : p.cycle ≡ cycle u
  pub long : length p.slots ≡ p.processors * p.cycle

-- Numbering the jobs asks that no period is 0 and that the jobs are few.
pub record Countable (u : Tasks) (h : ℕ) : Type 0 where
  pub few : u.count ≤ 64
  pub some_period : (i : ℕ) → i < u.count → 0 < period u i
  pub ticks : h ≡ cycle u
  pub few_jobs : jobs u ≤ 2048

-- ---- a task in the table of jobs
-- The jobs of task i, from the tables: the number of the first, how many there are, and the task.
unfoldable pub lane_of : ℕ → List ℕ → List ℕ → ℕ → Lane
lane_of h xs bs i = record { base = get_or bs i 0; jobs = h / (task_at xs i).period; task = task_at xs i }

-- The same by the model.
unfoldable pub lane_in : Tasks → ℕ → Lane
lane_in u i = record { base = jobs_before u i; jobs = jobs_of u i; task = task_at u.attributes i }

-- The table of jobs tells what the jobs of tasks u get in plan p.
pub record Tallied (rows : List (List ℕ)) (u : Tasks) (p : Plan) : Type 0 where
  pub fit : Fit u p
  pub gets : EachJobGets u p rows

-- It tells so of a task whose jobs l has.
pub record Tells (rows : List (List ℕ)) (l : Lane) : Type 0 where
  pub tasks : Tasks
  pub plan : Plan
  pub task : ℕ
  pub tallied : Tallied rows tasks plan
  pub low : task < tasks.count
  pub base : l.base ≡ jobs_before tasks task
  pub jobs : l.jobs ≡ jobs_of tasks task
  pub attributes : l.task ≡ task_at tasks.attributes task

-- ---- rule 22
-- The tables are those of n tasks with patterns v and a cycle of h ticks, and tell what their jobs get in a plan.
pub record Counted (n h : ℕ) (xs bs : List ℕ) (v : Patterns) (rows : List (List ℕ)) : Type 0 where
  pub plan : Plan
  pub needs : PlanNeeds (tasks_of n xs) v plan
  pub tallied : Tallied rows (tasks_of n xs) plan
  pub first_jobs : FirstJobs (tasks_of n xs) bs
  pub ticks : plan.cycle ≡ h

-- ---- how a pattern's links step
-- By the tables of tasks and of first jobs.
unfoldable pub steps_of : ℕ → List ℕ → List ℕ → ℕ → ℕ → LinkSteps
steps_of h xs bs x y =
    let p : ℕ = multiple_of (task_at xs x).period (task_at xs y).period in
    record {
      from = lane_of h xs bs x;
      to = lane_of h xs bs y;
      first = p / (task_at xs x).period;
      second = p / (task_at xs y).period;
      rounds = h / p;
    }

-- What that asks.
pub record StepsNeeds (xs : List ℕ) (x y : ℕ) : Type 0 where
  pub from_few : x < 64
  pub to_few : y < 64
  pub some_from : 0 < (task_at xs x).period
  pub some_to : 0 < (task_at xs y).period
  pub some_whole : 0 < multiple_of (task_at xs x).period (task_at xs y).period

-- The same by the model.
unfoldable pub stride : Tasks → Patterns → ℕ → LinkSteps
stride u v k =
    record {
      from = lane_in u (from_task v k);
      to = lane_in u (to_task v k);
      first = common u v k / period u (from_task v k);
      second = common u v k / period u (to_task v k);
      rounds = repeats u v k;
    }

-- ---- rule 23: who the tables speak of
-- The set is sound, the table tells what its jobs get, and each gets a tick.
pub record AllRan (rows : List (List ℕ)) (u : Tasks) (v : Patterns) (p : Plan) : Type 0 where
  pub needs : PlanNeeds u v p
  pub tallied : Tallied rows u p
  pub ran : (i k : ℕ) → i < u.count → k < jobs_of u i → 0 < ticks u p i k

-- The pair at place x, whose links step by g.
pub record PairOf (ps : List ℕ) (rows : List (List ℕ)) (g : LinkSteps) (x : ℕ) : Type 0 where
  pub tasks : Tasks
  pub patterns : Patterns
  pub plan : Plan
  pub pattern : ℕ
  pub pair : ℕ
  pub all_ran : AllRan rows tasks patterns plan
  pub pairs : patterns.pairs ≡ ps
  pub steps : g ≡ stride tasks patterns pattern
  pub low : pattern < patterns.count
  pub inside : pair < pair_count patterns pattern
  pub place : x ≡ pairs_before patterns pattern + pair

-- The n pairs from place s on are those of one pattern.
pub record PatternOf (ps : List ℕ) (rows : List (List ℕ)) (g : LinkSteps) (s n : ℕ) : Type 0 where
  pub tasks : Tasks
  pub patterns : Patterns
  pub plan : Plan
  pub pattern : ℕ
  pub all_ran : AllRan rows tasks patterns plan
  pub pairs : patterns.pairs ≡ ps
  pub steps : g ≡ stride tasks patterns pattern
  pub low : pattern < patterns.count
  pub start : s ≡ pairs_before patterns pattern
  pub count : n ≡ pair_count patterns pattern

-- The tables are those of n tasks with patterns v, and every job gets a tick.
pub record LinkNeeds (n h : ℕ) (xs bs : List ℕ) (v : Patterns) (rows : List (List ℕ)) : Type 0 where
  pub counted : Counted n h xs bs v rows
  pub all_ran : AllRan rows (tasks_of n xs) v counted.plan
