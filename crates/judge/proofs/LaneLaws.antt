-- What the table of one cycle tells of any job of a task, also of one past the cycle.
use mathlib.Core.Path.{◌≡◌, ap, ◌∙◌, subst}
use mathlib.Core.List.{List}
use Prim.Native.Nat.{ℕ, ◌+◌, ◌-◌, ◌*◌, ◌/◌, ◌%◌, ◌<◌, ◌≤◌, ◌∣◌}
use native.Mathlib.Nat.{div-add-mod', div-mul_cancel, le-div_iff_mul-le, le_of_dvd, mul-le-mul}
use native.Mathlib.Omega.{arith}
use lib.ListN.{get_or, length}
use Rattle.vocabulary.specs.Tally.{count_at, first_at, last_at}
use Rattle.kinds.specs.declared.Task.{Task}
use Rattle.kinds.specs.Tasks.{Tasks, task_at, task_in, task_in_lem, period, offset}
use Rattle.kinds.specs.Cycle.{jobs_of, jobs_before}
use Rattle.kinds.specs.Jobs.{release, number_of_job}
use Rattle.kinds.specs.Plans.{Plan}
use Rattle.judge.specs.declared.Lane.{Lane}
use Rattle.kinds.specs.JobTicks.{Gets}
use Rattle.laws.proofs.JobTicks.{gets_none, gets_low, gets_again}
use Rattle.judge.specs.JobTable.{RowGets}
use Rattle.judge.specs.JobOfSlot.{Fit}
use Rattle.judge.proofs.EachJobGets.{jobs_are, number_fits}
use Rattle.judge.specs.TableNeeds.{lane_of, lane_in, Tallied, Tells}

module _ (h : ℕ) (xs bs : List ℕ) (i : ℕ) (l : i < 64) {t : Task} (e : t ≡ task_in xs i) where
  pub lane_some_period : 0 < (task_at xs i).period → 0 < t.period
  lane_some_period p = rw (e ∙ task_in_lem xs i l) p

  pub lane_made : record { base = get_or bs i 0; jobs = h / t.period; task = t } ≡ lane_of h xs bs i
  unfolding lane_of
  lane_made = ap (λ (z : Task). record { base = get_or bs i 0; jobs = h / z.period; task = z }) (e ∙ task_in_lem xs i l)

pub lane_parts : (u : Tasks) (i : ℕ) {l : Lane} → l ≡ lane_in u i
    → (l.base ≡ jobs_before u i) × (l.jobs ≡ jobs_of u i) × (l.task ≡ task_at u.attributes i)
unfolding lane_in
lane_parts u i e = (ap (λ (z : Lane). z.base) e, ap (λ (z : Lane). z.jobs) e, ap (λ (z : Lane). z.task) e)

abbrev pub lane_tells : {rows : List (List ℕ)} {u : Tasks} {p : Plan} {i : ℕ} {l : Lane} → Tallied rows u p → i < u.count → l ≡ lane_in u i → Tells rows l
lane_tells {rows} {u} {p} {i} {l} w li e =
    record {
      tasks = u;
      plan = p;
      task = i;
      tallied = w;
      low = li;
      base = (lane_parts u i e).0;
      jobs = (lane_parts u i e).1;
      attributes = (lane_parts u i e).2;
    }

module _ {rows : List (List ℕ)} {l : Lane} (t : Tells rows l) where
  abbrev f : Fit t.tasks t.plan
  f = t.tallied.fit

  period_is : l.task.period ≡ period t.tasks t.task
  period_is = ap (λ z. z.period) t.attributes

  offset_is : l.task.offset ≡ offset t.tasks t.task
  offset_is = ap (λ z. z.offset) t.attributes

  -- The task's periods fill the cycle.
  whole : l.jobs * l.task.period ≡ t.plan.cycle
  whole =
      rw (t.jobs, period_is, jobs_are t.tasks t.plan f t.task) (div-mul_cancel (period t.tasks t.task) (f.divides t.task t.low))

  -- ---- what asking asks of the machine's numbers
  pub ask_some : 0 < l.jobs
  ask_some =
      let some = (le-div_iff_mul-le {x = 1} {y = t.plan.cycle} (f.some_period t.task t.low)).1
      (omega (arith, le_of_dvd f.some_cycle (f.divides t.task t.low))) in
      omega (arith, t.jobs, jobs_are t.tasks t.plan f t.task, some)

  pub ask_here : {k : ℕ} → k < l.jobs → (l.base + k < length rows) × (l.base + k < 2048)
  ask_here {k} lk =
      let w = number_fits t.tasks t.plan f t.task k t.low (omega (arith, t.jobs)) in
      (omega (arith, t.base, w, t.tallied.gets.long), omega (arith, t.base, w, f.few_jobs))

  room : {k : ℕ} → k < l.jobs → k * l.task.period + l.task.period ≤ 6000
  room {k} lk =
      let g : (k + 1) * l.task.period ≤ l.jobs * l.task.period = mul-le-mul {n₁ = k + 1} {n₂ = l.jobs} (omega arith) (omega arith) in
      omega (arith, g, whole, f.low_cycle)

  pub ask_release : {k : ℕ} → k < l.jobs → l.task.offset + k * l.task.period ≤ 12000
  ask_release lk = omega (arith, room lk, offset_is, period_is, f.offset_low t.task t.low)

  pub ask_before : (k : ℕ) → k % l.jobs ≤ k
  ask_before k = omega (arith, div-add-mod' k l.jobs)

  pub ask_far : {k : ℕ} → k < 4294967296 → (k - k % l.jobs) * l.task.period ≤ 4294967295 * 6000
  ask_far {k} lk =
      mul-le-mul {n₁ = k - k % l.jobs} {m₁ = l.task.period} {n₂ = 4294967295} {m₂ = 6000} (omega arith) (omega (arith, period_is, f.low_period t.task t.low))

  -- ---- a job of the cycle
  module _ {k x : ℕ} (lk : k < l.jobs) (ex : x ≡ l.base + k) where
    row_is : RowGets t.tasks t.plan t.task k rows x
    unfolding number_of_job
    row_is = rw (ex, t.base) (t.tallied.gets.each t.task k t.low (omega (arith, t.jobs)))

    pub lane_some : (count_at rows x ≡ 0 → ⊥) → Gets t.tasks t.plan t.task k (count_at rows x) (first_at rows x) (last_at rows x)
    lane_some z = row_is.some (omega (arith, z))

    pub lane_none : count_at rows x ≡ 0
        → Gets t.tasks t.plan t.task k 0 (l.task.offset + k * l.task.period) (l.task.offset + k * l.task.period)
    unfolding release
    lane_none z = rw (offset_is, period_is) (gets_none t.tasks t.plan t.task k (row_is.none z))

  -- ---- its times are low
  pub ask_times : {k c a b : ℕ} → k < l.jobs → Gets t.tasks t.plan t.task k c a b → (a < 12000) × (b < 12000)
  ask_times {k} lk g =
      gets_low t.tasks t.plan t.task k (f.some_deadline t.task t.low) (f.deadline_low t.task t.low) (f.offset_low t.task t.low)
      (rw period_is at (room lk)) g

  -- ---- any job, from the one that it repeats
  put_off : (k : ℕ) → (k - k % l.jobs) * l.task.period ≡ k / jobs_of t.tasks t.task * t.plan.cycle
  put_off k =
      let e : k - k % l.jobs ≡ k / l.jobs * l.jobs = omega (arith, div-add-mod' k l.jobs) in
      ap (λ (x : ℕ). x * l.task.period) e
      ∙ (let g : k / l.jobs * l.jobs * l.task.period ≡ k / l.jobs * (l.jobs * l.task.period) = omega arith in g)
      ∙ ap (λ (x : ℕ). k / l.jobs * x) whole
      ∙ ap (λ (x : ℕ). k / x * t.plan.cycle) t.jobs

  pub lane_later : (k : ℕ) {c a b : ℕ} → Gets t.tasks t.plan t.task (k % l.jobs) c a b
      → Gets t.tasks t.plan t.task k c (a + (k - k % l.jobs) * l.task.period) (b + (k - k % l.jobs) * l.task.period)
  lane_later k {c} {a} {b} g =
      let d : period t.tasks t.task ∣ _ = subst (λ (y : ℕ). period t.tasks t.task ∣ y) f.ticks (f.divides t.task t.low) in
      rw (put_off k) (gets_again t.tasks t.plan t.task k f.ticks d (rw t.jobs at g))

  -- ---- numbers of jobs on the code's side and on the model's
  pub lane_low : {k : ℕ} → k < l.jobs → k < jobs_of t.tasks t.task
  lane_low lk = omega (arith, t.jobs)

  pub lane_high : {k : ℕ} → l.jobs ≤ k → jobs_of t.tasks t.task ≤ k
  lane_high lk = omega (arith, t.jobs)
