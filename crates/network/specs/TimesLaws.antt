-- How large the numbers of a sound set's jobs are: own releases, deadlines and running times, and the adjusted ones.
use Rattle.std.specs.Prelude.{◌≡◌}
use Prim.Native.Nat.{ℕ, suc, ◌-◌, ◌/◌, ◌≤◌, ◌<◌}
use Rattle.std.proofs.Math.Nat.{div-mul_cancel, mul-le-mul}
use Rattle.std.proofs.Common.{le_refl}
use native.Mathlib.Omega.{arith}
use Rattle.std.proofs.Math.IntN.{sub_ℕ}
use Rattle.graph.specs.Graph.{Graph}
use Rattle.graph.specs.Longest.{rounds}
use Rattle.graph.proofs.Settle.{rounds_bound}
use Rattle.graph.specs.Sub.{flip}
use Rattle.graph.proofs.Sub.{soonest_sub}
use Rattle.kinds.specs.Tasks.{Tasks, Patterns, Set, period}
use Rattle.kinds.specs.Cycle.{cycle, jobs_of, jobs}
use Rattle.kinds.specs.Jobs.{release, due, task_of_job, job_of_job}
use Rattle.kinds.proofs.SoundFacts.{Sound}
use Rattle.laws.proofs.Order.{task_low}
use Rattle.laws.proofs.Back.{job_of_low}
use Rattle.network.specs.Network.{network}
use Rattle.network.specs.NetworkLaws.{jobs_of_network, inside_network}
use Rattle.network.specs.Times.{own_release, own_due, own_running, release_by, adjusted_release, adjusted_deadline}

-- how far before tick 12,000 a job has to be done, in natural numbers
abbrev pub ahead : Tasks → Patterns → ℕ → ℕ
ahead u v x = rounds (flip (network u v)) (λ y. 12000 - own_due u y) (own_running u) (network u v).n x

module _ (s : Set) (f : Sound s) where
  abbrev u : Tasks
  u = s.tasks

  abbrev v : Patterns
  v = s.patterns

  -- a job of the cycle is released in it
  pub release_low : (i k : ℕ) → i < s.tasks.count → k < jobs_of s.tasks i → release s.tasks i k < cycle s.tasks
  unfolding release jobs_of
  release_low i k li lk =
      let t : ℕ = period u i in
      omega (arith, f.offset_low i li, mul-le-mul (let e : suc k ≤ cycle u / t = lk in e) (le_refl t), div-mul_cancel t (f.divides i li))

  module _ (x : ℕ) (l : x < jobs s.tasks) where
    abbrev i : ℕ
    i = task_of_job u x

    li : i < s.tasks.count
    li = task_low u x l

    pub own_release_low : own_release s.tasks x < 6000
    unfolding own_release
    own_release_low = omega (arith, f.low_cycle, release_low i (job_of_job u x) li (job_of_low u x l))

    pub own_due_low : own_due s.tasks x ≤ 12000
    unfolding own_due due
    own_due_low =
        omega (arith, f.low_cycle, release_low i (job_of_job u x) li (job_of_low u x l), f.deadline_low i li, f.low_period i li)

    pub own_running_low : own_running s.tasks x ≤ 6000
    unfolding own_running
    own_running_low = omega (arith, f.running_low i li, f.deadline_low i li, f.low_period i li)

    pub some_own_running : 0 < own_running s.tasks x
    unfolding own_running
    some_own_running = f.some_running i li

  -- each round adds at most one running time
  pub adjusted_release_low : (x : ℕ) → x < jobs s.tasks → adjusted_release s.tasks s.patterns x ≤ 12300000
  unfolding release_by
  adjusted_release_low x l =
      let g : Graph = network u v in
      omega (
        arith,
        rounds_bound g (own_release u) (own_running u) (inside_network s f) 12000 6000
            (λ y ly. omega (arith, own_release_low y (rw jobs_of_network at ly)))
            (λ y ly. own_running_low y (rw jobs_of_network at ly)) g.n x (rw jobs_of_network l),
        jobs_of_network u v,
        f.few_jobs,
      )

  pub ahead_low : (x : ℕ) → x < jobs s.tasks → ahead s.tasks s.patterns x ≤ 12300000
  ahead_low x l =
      let g : Graph = network u v in
      let i = inside_network s f in
      omega (
        arith,
        rounds_bound (flip g) (λ y. 12000 - own_due u y) (own_running u) (record { starts = i.ends; ends = i.starts }) 12000 6000 (λ y ly. omega arith)
            (λ y ly. own_running_low y (rw jobs_of_network at ly)) g.n x (rw jobs_of_network l),
        jobs_of_network u v,
        f.few_jobs,
      )

  pub adjusted_deadline_is : (x : ℕ) → x < jobs s.tasks → adjusted_deadline s.tasks s.patterns x ≡ sub_ℕ 12000 (ahead s.tasks s.patterns x)
  unfolding adjusted_deadline
  adjusted_deadline_is x l =
      let g : Graph = network u v in
      soonest_sub g (own_due u) (own_running u) 12000 (inside_network s f) (λ y ly. own_due_low y (rw jobs_of_network at ly)) g.n x (rw jobs_of_network l)
