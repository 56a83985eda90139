-- Rule 22 over the table of jobs.
use mathlib.Core.Path.{◌≡◌, sym, ap, ap₂, ◌∙◌}
use mathlib.Core.Bool.{true, false, not}
use mathlib.Core.List.{List}
use Prim.Native.Nat.{ℕ, ◌/◌, ◌<◌}
use native.Mathlib.Omega.{arith}
use borrow.Author.Tests.{eqb-true, eq-eqb, ne_eqb, not-false}
use Rattle.vocabulary.specs.First.{first_of, from}
use Rattle.std.specs.Prelude.{Some, None}
use Rattle.vocabulary.specs.Least.{least, some, lowest, Seeking}
use Rattle.vocabulary.proofs.Least.{some_lt, some_not, hit, some_least}
use Rattle.judge.proofs.Searches.{lowest_yes, lowest_no}
use Rattle.kinds.specs.Tasks.{Tasks, Patterns, tasks_of, task_at, running}
use Rattle.kinds.specs.Cycle.{jobs_of}
use Rattle.kinds.specs.Plans.{Plan, ticks}
use Rattle.judge.specs.declared.Lane.{Lane}
use Rattle.judge.specs.declared.Verdict.TheVariants as verdict
use Rattle.judge.specs.Rules.{miscounts, miscounted}
use Rattle.judge.specs.Judgement.{wrong_at, plan_rules, verdict_from}
use Rattle.kinds.specs.JobTicks.{Gets}
use Rattle.laws.proofs.JobTicks.{gets_ticks}
use Rattle.judge.proofs.EachJobGets.{jobs_are}
use Rattle.judge.specs.TableNeeds.{lane_of, lane_in, Tells, Counted}
use Rattle.judge.proofs.LaneLaws.{lane_parts, lane_tells}

-- ---- one job
module _ {rows : List (List ℕ)} {l : Lane} (t : Tells rows l) {k n a b : ℕ} (g : Gets t.tasks t.plan t.task k n a b) where
  run_is : l.task.running ≡ running t.tasks t.task
  run_is = ap (λ z. z.running) t.attributes

  pub miscount_yes : (n ≡ l.task.running → ⊥) → miscounts t.tasks t.plan t.task k ≡ true
  unfolding miscounts
  miscount_yes d =
      ap not (ne_eqb (ticks t.tasks t.plan t.task k) (running t.tasks t.task) (λ q. d (g.number ∙ q ∙ sym run_is)))

  pub miscount_no : n ≡ l.task.running → miscounts t.tasks t.plan t.task k ≡ false
  unfolding miscounts
  miscount_no d = ap not (eq-eqb (ticks t.tasks t.plan t.task k) (running t.tasks t.task) (sym g.number ∙ d ∙ run_is))

-- ---- one task
module _ {n h : ℕ} {xs bs : List ℕ} {v : Patterns} {rows : List (List ℕ)} (w : Counted n h xs bs v rows) {i : ℕ} (l : i < n) where
  pub task_room : (i < 64) × (0 < (task_at xs i).period)
  task_room = (omega (arith, w.tallied.fit.few_tasks), w.tallied.fit.some_period i l)

  pub jobs_is : h / (task_at xs i).period ≡ jobs_of (tasks_of n xs) i
  jobs_is = ap (λ (x : ℕ). x / (task_at xs i).period) (sym w.ticks) ∙ sym (jobs_are (tasks_of n xs) w.plan w.tallied.fit i)

  module _ {x : Lane} (e : x ≡ lane_of h xs bs i) where
    pub lane_is : x ≡ lane_in (tasks_of n xs) i
    unfolding lane_of lane_in
    lane_is = e ∙ ap₂ (λ (y z : ℕ). record { base = y; jobs = z; task = task_at xs i }) (w.first_jobs.each i l) jobs_is

    abbrev pub task_tells : Tells rows x
    task_tells = lane_tells w.tallied l lane_is

    pub task_no : None ≡ lowest (miscounts (tasks_of n xs) w.plan i) (jobs_of (tasks_of n xs) i) → miscounted (tasks_of n xs) w.plan i ≡ false
    unfolding miscounted
    task_no = lowest_no (miscounts (tasks_of n xs) w.plan i) (jobs_of (tasks_of n xs) i)

    module _ {k : ℕ} (ek : Some k ≡ lowest (miscounts (tasks_of n xs) w.plan i) (jobs_of (tasks_of n xs) i)) where
      pub job_low : k < x.jobs
      job_low =
          let z = some_least (miscounts (tasks_of n xs) w.plan i) (jobs_of (tasks_of n xs) i) k ek in
          omega (arith, z.1, (lane_parts (tasks_of n xs) i lane_is).1)

      pub wrong_found : {c a b : ℕ} → Seeking (miscounted (tasks_of n xs) w.plan) n i → Gets (tasks_of n xs) w.plan i k c a b
          → verdict.WrongCount i k c a b ≡ verdict_from 22 (tasks_of n xs) v w.plan
      unfolding verdict_from plan_rules from first_of wrong_at miscounted
      wrong_found s g =
          let z = some_least (miscounts (tasks_of n xs) w.plan i) (jobs_of (tasks_of n xs) i) k ek in
          let e : i ≡ least (miscounted (tasks_of n xs) w.plan) n = hit _ _ i s (lowest_yes _ _ ek) in
          let q = gets_ticks (tasks_of n xs) w.plan i k g in
          rw (some_lt (miscounted (tasks_of n xs) w.plan) n i e l, ← e, ← z.0, ← q.0, ← q.1, ← q.2)

-- Where no task is miscounted every job gets its running time.
pub all_counted : (u : Tasks) (p : Plan) → some (miscounted u p) u.count ≡ false → (i k : ℕ) → i < u.count → k < jobs_of u i
    → ticks u p i k ≡ running u i
unfolding miscounted miscounts
all_counted u p h i k li lk =
    eqb-true _ _ (not-false _ (some_not (miscounts u p i) (jobs_of u i) (some_not (miscounted u p) u.count h i li) k lk))
