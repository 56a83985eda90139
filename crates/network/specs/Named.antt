-- What the public calls take from a sound set: its cycle, its load, and a job's task and place among its task's jobs.
use Rattle.std.specs.Prelude.{◌≡◌, []}
use Rattle.std.proofs.Common.{sym, ◌∙◌, le_refl, div-le_self, le-div_iff_mul-le, div-add-mod', lt-ltb, le-ltb}
use Rattle.std.proofs.Math.Path.{ap, ap₂}
use Prim.Native.Nat.{ℕ, suc, ◌+◌, ◌-◌, ◌*◌, ◌/◌, ◌≤◌, ◌<◌}
use Rattle.std.proofs.Math.Nat.{mul-le-mul, le_of_dvd}
use native.Mathlib.Omega.{arith}
use Rattle.std.proofs.Math.Dec.{ltb}
use Rattle.vocabulary.specs.Least.{least, Seeking}
use Rattle.vocabulary.proofs.Least.{seek, on, hit, miss}
use Rattle.vocabulary.specs.Total.{total}
use Rattle.vocabulary.proofs.Total.{total_none, total_more, total_mono}
use Rattle.kinds.specs.declared.Task.{Task}
use Rattle.kinds.specs.declared.Pattern.{Pattern}
use Rattle.kinds.specs.Tasks.{Tasks, Patterns, Set, tasks_of, patterns_of, task_at, period, running, from_task, to_task, pair_count, task_in, pattern_in}
use Rattle.kinds.specs.Tasks.{task_in_lem, pattern_in_lem}
use Rattle.kinds.specs.Links.{common, repeats, links_of, links}
use Rattle.kinds.specs.Cycle.{cycle, jobs_of, jobs_before, jobs}
use Rattle.kinds.specs.Jobs.{task_of_job, job_of_job}
use Rattle.kinds.proofs.SoundFacts.{Sound, jobs_fill}
use Rattle.laws.proofs.Order.{before_suc}
use Rattle.network.specs.declared.Job.{Job}
use Rattle.network.specs.Causes.{load, room}

-- ---- a job by its number
abbrev pub job_at : Tasks → ℕ → Job
job_at u x = record { task = task_of_job u x; job = job_of_job u x }

pub record JobAsked (u : Tasks) (h x : ℕ) : Type 0 where
  pub few : u.count ≤ 64
  pub some : (i : ℕ) → i < u.count → 0 < period u i
  pub ticks : h ≡ cycle u
  pub low : x ≤ 2048

-- the walk has come to task i, and the number lies y behind its first job
pub record Naming (u : Tasks) (x y i : ℕ) : Type 0 where
  pub seeking : Seeking (λ j. ltb x (jobs_before u (suc j))) u.count i
  pub behind : y + jobs_before u i ≡ x

pub name_from : (u : Tasks) (x : ℕ) → Naming u x x 0
unfolding jobs_before
name_from u x = record { seeking = seek (λ j. ltb x (jobs_before u (suc j))) u.count; behind = omega (arith, total_none (jobs_of u)) }

module _ (u : Tasks) (h x y i k : ℕ) (a : JobAsked u h x) (p : Naming u x y i) (li : i < u.count) {t : Task} (et : t ≡ task_in u.attributes i) where
  period_is : t.period ≡ period u i
  period_is = ap (λ (z : Task). z.period) (et ∙ task_in_lem u.attributes i (omega (arith, a.few)))

  pub name_some : 0 < t.period
  name_some = omega (arith, period_is, a.some i li)

module _ (u : Tasks) (h x y i k : ℕ) (a : JobAsked u h x) (p : Naming u x y i) (li : i < u.count) {t : Task} (et : t ≡ task_in u.attributes i)
    (e₀ : k ≡ h / t.period) where
  e : k ≡ h / period u i
  e = e₀ ∙ ap (λ (z : ℕ). h / z) (period_is u h x y i k a p li et)

  many : k ≡ jobs_of u i
  unfolding jobs_of
  many = e ∙ ap (λ (n : ℕ). n / period u i) a.ticks

  here : i ≡ task_of_job u x → record { task = i; job = y } ≡ job_at u x
  unfolding job_of_job
  here q = ap₂ (λ (b c : ℕ). record { task = b; job = c }) q (omega (arith, p.behind, ap (jobs_before u) q))

  pub name_hit : y < k → record { task = i; job = y } ≡ job_at u x
  unfolding task_of_job
  name_hit l =
      here (hit (λ j. ltb x (jobs_before u (suc j))) u.count i p.seeking
      (lt-ltb x (jobs_before u (suc i)) (omega (arith, p.behind, many, before_suc u i))))

  pub name_on : k ≤ y → Naming u x (y - k) (i + 1)
  name_on l =
      record {
        seeking =
            on (λ j. ltb x (jobs_before u (suc j))) u.count i p.seeking li
            (le-ltb x (jobs_before u (suc i)) (omega (arith, p.behind, many, before_suc u i)));
        behind = let g : suc i ≡ i + 1 = omega arith in omega (arith, p.behind, many, before_suc u i, ap (jobs_before u) g);
      }

pub name_end : (u : Tasks) (x y i : ℕ) → Naming u x y i → u.count ≤ i → record { task = u.count; job = y } ≡ job_at u x
unfolding task_of_job job_of_job
name_end u x y i p l =
    let q : i ≡ least (λ j. ltb x (jobs_before u (suc j))) u.count = miss (λ j. ltb x (jobs_before u (suc j))) u.count i p.seeking l in
    ap₂ (λ (b c : ℕ). record { task = b; job = c }) (omega (arith, q, p.seeking.within)) (omega (arith, p.behind, ap (jobs_before u) q))

-- ---- the load
abbrev pub share : ℕ → Tasks → ℕ → ℕ
share h u i = running u i * (h / period u i)

pub record LoadAsked (h : ℕ) (u : Tasks) : Type 0 where
  pub few : u.count ≤ 64
  pub some : (i : ℕ) → i < u.count → 0 < period u i
  pub low : (i : ℕ) → i < u.count → share h u i ≤ 6000

pub record Loading (h : ℕ) (u : Tasks) (b i : ℕ) : Type 0 where
  pub within : i ≤ u.count
  pub sum : b ≡ total (share h u) i
  pub low : b ≤ i * 6000

pub load_from : (h : ℕ) (u : Tasks) → Loading h u 0 0
load_from h u = record { within = omega arith; sum = sym (total_none (share h u)); low = omega arith }

module _ (h : ℕ) (u : Tasks) (b i : ℕ) (a : LoadAsked h u) (p : Loading h u b i) (l : i < u.count) {t : Task} (et : t ≡ task_in u.attributes i) where
  task_is : t ≡ task_at u.attributes i
  task_is = et ∙ task_in_lem u.attributes i (omega (arith, a.few))

  share_is : t.running * (h / t.period) ≡ share h u i
  share_is = ap (λ (z : Task). z.running * (h / z.period)) task_is

  pub load_some : 0 < t.period
  load_some = rw task_is (a.some i l)

  pub load_low : t.running * (h / t.period) ≤ 6000
  load_low = omega (arith, share_is, a.low i l)

  pub load_on : Loading h u (b + t.running * (h / t.period)) (i + 1)
  load_on = record { within = omega arith; sum = omega (arith, share_is, p.sum, total_more (share h u) i); low = omega (arith, p.low, load_low) }

  pub load_room : b + t.running * (h / t.period) ≤ 384000
  load_room = omega (arith, load_on.low, a.few)

pub load_end : (h : ℕ) (u : Tasks) (b i : ℕ) → Loading h u b i → u.count ≤ i → b ≡ total (share h u) u.count
load_end h u b i p l = p.sum ∙ ap (total (share h u)) (let g : i ≡ u.count = omega (arith, p.within) in g)

-- ---- of a sound set
module _ (s : Set) (f : Sound s) (h : ℕ) (e : h ≡ cycle s.tasks) where
  pub job_asked : (x : ℕ) → x < jobs s.tasks → JobAsked s.tasks h x
  job_asked x l = record { few = f.few_tasks; some = f.some_period; ticks = e; low = omega (arith, f.few_jobs) }

  pub load_asked : LoadAsked h s.tasks
  unfolding jobs_of
  load_asked =
      record {
        few = f.few_tasks;
        some = f.some_period;
        low = λ i l.
            let t : ℕ = period s.tasks i in
            let c : ℕ = running s.tasks i in
            let k : ℕ = cycle s.tasks / t in
            let g : c * (h / t) ≡ c * k = ap (λ (m : ℕ). c * (m / t)) e in
            omega (
              arith,
              g,
              mul-le-mul (let q : c ≤ t = omega (arith, f.running_low i l, f.deadline_low i l) in q)
                  (le_refl k),
              jobs_fill s f i l,
              f.low_cycle,
            );
      }

  pub load_is : total (share h s.tasks) s.tasks.count ≡ load s.tasks
  unfolding load jobs_of
  load_is = ap (λ (m : ℕ). total (share m s.tasks) s.tasks.count) e

  pub room_is : s.processors * h ≡ room s
  unfolding room
  room_is = ap (λ (m : ℕ). s.processors * m) e

  pub room_low : s.processors * h ≤ 48000
  room_low = omega (arith, mul-le-mul f.few_processors (let q : h ≤ 6000 = omega (arith, f.low_cycle) in q))

-- ---- at least as many as there are links: each pair makes at most one for each job of the first task
abbrev pub bound : ℕ → Tasks → Patterns → ℕ → ℕ
bound h u v k = pair_count v k * (h / period u (from_task v k))

pub record BoundAsked (h : ℕ) (u : Tasks) (v : Patterns) : Type 0 where
  pub few : v.count ≤ 64
  pub short : h ≤ 6000
  pub task : (k : ℕ) → k < v.count → from_task v k < 64
  pub some : (k : ℕ) → k < v.count → 0 < period u (from_task v k)
  pub pairs : (k : ℕ) → k < v.count → pair_count v k ≤ 1024

pub record Bounding (h : ℕ) (u : Tasks) (v : Patterns) (b k : ℕ) : Type 0 where
  pub within : k ≤ v.count
  pub sum : b ≡ total (bound h u v) k
  pub low : b ≤ k * 6144000

pub bound_from : (h : ℕ) (u : Tasks) (v : Patterns) → Bounding h u v 0 0
bound_from h u v = record { within = omega arith; sum = sym (total_none (bound h u v)); low = omega arith }

module _ (h : ℕ) (u : Tasks) (v : Patterns) (b k : ℕ) (a : BoundAsked h u v) (p : Bounding h u v b k)
    (l : k < v.count) {c : Pattern} {i : ℕ} {t : Task} (ec : c ≡ pattern_in v.headings k) (ei : i ≡ c.from) (et : t ≡ task_in u.attributes i)
  where
    head_is : c ≡ record { from = from_task v k; to = to_task v k; pairs = pair_count v k }
    head_is = ec ∙ pattern_in_lem v.headings k (omega (arith, a.few))

    task_from_lem : i ≡ from_task v k
    task_from_lem = ei ∙ ap (λ (z : Pattern). z.from) head_is

    from_is : t.period ≡ period u (from_task v k)
    from_is = ap (λ (z : Task). z.period) (et ∙ ap (task_in u.attributes) task_from_lem ∙ task_in_lem u.attributes (from_task v k) (a.task k l))

    pub bound_some : 0 < t.period
    bound_some = omega (arith, from_is, a.some k l)

    module _ {m n : ℕ} (em : m ≡ c.pairs) (en : n ≡ h / t.period) where
      part_is : m * n ≡ bound h u v k
      part_is = ap₂ (λ (x y : ℕ). x * y) (em ∙ ap (λ (z : Pattern). z.pairs) head_is) (en ∙ ap (λ (z : ℕ). h / z) from_is)

      pub bound_low : m * n ≤ 6144000
      bound_low =
          omega (
            arith,
            part_is,
            mul-le-mul (a.pairs k l)
                (let q : h / period u (from_task v k) ≤ 6000 = omega (arith, div-le_self h (period u (from_task v k)), a.short) in q),
          )

      pub bound_on : Bounding h u v (b + m * n) (k + 1)
      bound_on = record { within = omega arith; sum = omega (arith, part_is, p.sum, total_more (bound h u v) k); low = omega (arith, p.low, bound_low) }

      pub bound_room : b + m * n ≤ 400000000
      bound_room = omega (arith, bound_on.low, a.few)

pub bound_end : (h : ℕ) (u : Tasks) (v : Patterns) (b k : ℕ) → Bounding h u v b k → v.count ≤ k → b ≡ total (bound h u v) v.count
bound_end h u v b k p l = p.sum ∙ ap (total (bound h u v)) (let g : k ≡ v.count = omega (arith, p.within) in g)

div_down : (h p t : ℕ) → 0 < p → 0 < t → t ≤ p → h / p ≤ h / t
div_down h p t pp pt l =
    (le-div_iff_mul-le {x = h / p} {y = h} pt).1 (omega (arith, mul-le-mul (le_refl (h / p)) l, div-add-mod' h p))

module _ (s : Set) (f : Sound s) (h : ℕ) (e : h ≡ cycle s.tasks) where
  pub bound_asked : BoundAsked h (tasks_of 0 s.tasks.attributes) (patterns_of s.patterns.count s.patterns.headings [])
  bound_asked =
      record {
        few = f.few_patterns;
        short = omega (arith, f.low_cycle);
        task = λ k l. omega (arith, f.from_low k l, f.few_tasks);
        some = λ k l. f.some_period (from_task s.patterns k) (f.from_low k l);
        pairs = λ k l. omega (arith, f.room k l);
      }

  pub links_bound : links s.tasks s.patterns
      ≤ total (bound h (tasks_of 0 s.tasks.attributes) (patterns_of s.patterns.count s.patterns.headings [])) s.patterns.count
  unfolding links links_of repeats
  links_bound =
      total_mono (links_of s.tasks s.patterns) (bound h s.tasks s.patterns) s.patterns.count (λ k l.
      let t : ℕ = period s.tasks (from_task s.patterns k) in
      let p : ℕ = common s.tasks s.patterns k in
      let q : h / p ≤ h / t =
      div_down h p t (f.some_common k l) (f.some_period (from_task s.patterns k) (f.from_low k l))
      (le_of_dvd (f.some_common k l) (f.from_divides k l)) in
      let g : cycle s.tasks / p ≡ h / p = ap (λ (m : ℕ). m / p) (sym e) in
      omega (arith, ap (λ (m : ℕ). pair_count s.patterns k * m) g, mul-le-mul (le_refl (pair_count s.patterns k)) q))
