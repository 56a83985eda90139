-- Two sets that agree on what counts, which is the counts and the entries within them: what is made of their tasks and patterns is the same.
use Rattle.std.specs.Prelude.{◌≡◌, Bool, ◌&&◌, List}
use Rattle.std.proofs.Math.Path.{ap, ap₂, fun_ext}
use Rattle.std.proofs.Common.{◌∙◌, arith}
use Prim.Native.Nat.{ℕ, suc, ◌+◌, ◌-◌, ◌*◌, ◌/◌, ◌<◌, ◌≤◌}
use Rattle.std.proofs.Math.Dec.{leb, ltb}
use Rattle.vocabulary.specs.Test.{pick}
use Rattle.vocabulary.specs.Least.{least, some, greatest}
use Rattle.vocabulary.proofs.Least.{least_is, least_same}
use Rattle.vocabulary.specs.Count.{count}
use Rattle.vocabulary.proofs.Count.{count_same}
use Rattle.vocabulary.proofs.Total.{total_up}
use Rattle.kinds.specs.Tasks.{Set, period, running, offset, deadline, from_task, to_task, pair_count, pairs_in, pairs_before}
use Rattle.kinds.specs.Tasks.{first_in, second_in, pair_first, pair_second}
use Rattle.kinds.specs.Cycle.{jobs_of, jobs_before}
use Rattle.kinds.specs.Jobs.{release, due, number_of_job, task_of_job, job_of_job}
use Rattle.kinds.specs.Links.{common, link_from, link_to, repeats}
use Rattle.kinds.specs.Plans.{Plan, plan, plan_of, shown, awake, runs, ticks, runs_past, first_tick, last_tick}
use Rattle.kinds.proofs.SoundFacts.{Sound}
use Rattle.kinds.proofs.PatternWalk.{before_more}
use Rattle.kinds.proofs.WhatCounts.{Agree, cycle_agree, jobs_of_agree, jobs_before_agree, before_agree, common_agree}

module _ (s t : Set) (g : Agree s t) where
  -- ---- a task's numbers
  pub same_period : (i : ℕ) → i < s.tasks.count → period s.tasks i ≡ period t.tasks i
  same_period i l = g.attributes (4 * i) (omega arith)

  pub same_running : (i : ℕ) → i < s.tasks.count → running s.tasks i ≡ running t.tasks i
  same_running i l = g.attributes (4 * i + 1) (omega arith)

  pub same_offset : (i : ℕ) → i < s.tasks.count → offset s.tasks i ≡ offset t.tasks i
  same_offset i l = g.attributes (4 * i + 2) (omega arith)

  pub same_deadline : (i : ℕ) → i < s.tasks.count → deadline s.tasks i ≡ deadline t.tasks i
  same_deadline i l = g.attributes (4 * i + 3) (omega arith)

  -- ---- plans and jobs
  pub same_plan : (slots : List ℕ) → plan_of s slots ≡ plan_of t slots
  same_plan slots = ap₂ (plan slots) g.processors (cycle_agree s t g)

  pub same_release : (i k : ℕ) → i < s.tasks.count → release s.tasks i k ≡ release t.tasks i k
  unfolding release
  same_release i k l = ap₂ (λ (a b : ℕ). a + k * b) (same_offset i l) (same_period i l)

  pub same_due : (i k : ℕ) → i < s.tasks.count → due s.tasks i k ≡ due t.tasks i k
  unfolding due
  same_due i k l = ap₂ ◌+◌ (same_release i k l) (same_deadline i l)

  pub same_runs : (p : Plan) (i x : ℕ) → i < s.tasks.count → runs s.tasks p i x ≡ runs t.tasks p i x
  unfolding runs awake
  same_runs p i x l = ap (λ (o : ℕ). leb o x && shown p i x) (same_offset i l)

  pub same_ticks : (p : Plan) (i k : ℕ) → i < s.tasks.count → ticks s.tasks p i k ≡ ticks t.tasks p i k
  unfolding ticks
  same_ticks p i k l =
      count_same (runs s.tasks p i) (runs t.tasks p i) (release s.tasks i k) (release s.tasks i k) (deadline s.tasks i)
      (λ x h. same_runs p i (release s.tasks i k + x) l)
      ∙ ap₂ (count (runs t.tasks p i)) (same_release i k l) (same_deadline i l)

  -- ---- where a job's ticks fall: whatever is made of its release, of when it runs past that, and of its deadline
  pub same_past : (p : Plan) (i k x : ℕ) → i < s.tasks.count → runs_past s.tasks p i k x ≡ runs_past t.tasks p i k x
  same_past p i k x l = same_runs p i (release s.tasks i k + x) l ∙ ap (λ (r : ℕ). runs t.tasks p i (r + x)) (same_release i k l)

  same_made : (make : ℕ → (ℕ → Bool) → ℕ → ℕ) (p : Plan) (i k : ℕ) → i < s.tasks.count
      → make (release s.tasks i k) (runs_past s.tasks p i k) (deadline s.tasks i)
      ≡ make (release t.tasks i k) (runs_past t.tasks p i k) (deadline t.tasks i)
  same_made make p i k l =
      ap₂ (make (release s.tasks i k)) (fun_ext (λ x. same_past p i k x l)) (same_deadline i l)
      ∙ ap (λ (r : ℕ). make r (runs_past t.tasks p i k) (deadline t.tasks i)) (same_release i k l)

  pub same_first_tick : (p : Plan) (i k : ℕ) → i < s.tasks.count → first_tick s.tasks p i k ≡ first_tick t.tasks p i k
  unfolding first_tick
  same_first_tick = same_made (λ r f d. r + pick (some f d) (least f d) 0)

  pub same_last_tick : (p : Plan) (i k : ℕ) → i < s.tasks.count → last_tick s.tasks p i k ≡ last_tick t.tasks p i k
  unfolding last_tick
  same_last_tick = same_made (λ r f d. r + greatest f d)

  -- ---- jobs by their numbers
  pub same_task : (x : ℕ) → task_of_job s.tasks x ≡ task_of_job t.tasks x
  unfolding task_of_job
  same_task x =
      least_same (λ i. ltb x (jobs_before s.tasks (suc i))) (λ i. ltb x (jobs_before t.tasks (suc i))) s.tasks.count
      (λ i l. ap (ltb x) (jobs_before_agree s t g (suc i) (omega arith)))
      ∙ ap (least (λ i. ltb x (jobs_before t.tasks (suc i)))) g.task_count

  task_within : (x : ℕ) → task_of_job s.tasks x ≤ s.tasks.count
  unfolding task_of_job
  task_within x = (least_is (λ i. ltb x (jobs_before s.tasks (suc i))) s.tasks.count).within

  pub same_job : (x : ℕ) → job_of_job s.tasks x ≡ job_of_job t.tasks x
  unfolding job_of_job
  same_job x =
      ap (λ (n : ℕ). x - n) (jobs_before_agree s t g (task_of_job s.tasks x) (task_within x) ∙ ap (jobs_before t.tasks) (same_task x))

  pub same_number : (i k : ℕ) → i ≤ s.tasks.count → number_of_job s.tasks i k ≡ number_of_job t.tasks i k
  unfolding number_of_job
  same_number i k l = ap (λ (n : ℕ). n + k) (jobs_before_agree s t g i l)

  -- ---- patterns and their pairs
  pub same_from : (k : ℕ) → k < s.patterns.count → from_task s.patterns k ≡ from_task t.patterns k
  same_from k l = g.headings (3 * k) (omega arith)

  pub same_to : (k : ℕ) → k < s.patterns.count → to_task s.patterns k ≡ to_task t.patterns k
  same_to k l = g.headings (3 * k + 1) (omega arith)

  pub same_pairs : (k : ℕ) → k < s.patterns.count → pair_count s.patterns k ≡ pair_count t.patterns k
  same_pairs k l = g.headings (3 * k + 2) (omega arith)

  pair_within : (k q : ℕ) → k < s.patterns.count → q < pair_count s.patterns k
      → pairs_before s.patterns k + q < pairs_before s.patterns s.patterns.count
  unfolding pairs_in
  pair_within k q l h =
      omega (arith, before_more s.patterns k, total_up (λ j. pair_count s.patterns j) (k + 1) s.patterns.count (omega arith))

  same_first : (k q : ℕ) → k < s.patterns.count → q < pair_count s.patterns k → pair_first s.patterns k q ≡ pair_first t.patterns k q
  same_first k q l h =
      g.pairs (2 * (pairs_before s.patterns k + q)) (omega (arith, pair_within k q l h))
      ∙ ap (λ (n : ℕ). first_in t.patterns.pairs (n + q)) (before_agree s t g k (omega arith))

  same_second : (k q : ℕ) → k < s.patterns.count → q < pair_count s.patterns k → pair_second s.patterns k q ≡ pair_second t.patterns k q
  same_second k q l h =
      g.pairs (2 * (pairs_before s.patterns k + q) + 1) (omega (arith, pair_within k q l h))
      ∙ ap (λ (n : ℕ). second_in t.patterns.pairs (n + q)) (before_agree s t g k (omega arith))

  -- ---- links of a sound set: its patterns name tasks of the set
  module _ (f : Sound s) (k : ℕ) (l : k < s.patterns.count) where
    same_common : common s.tasks s.patterns k ≡ common t.tasks t.patterns k
    same_common = common_agree s t g k l (f.from_low k l) (f.to_low k l)

    pub same_repeats : repeats s.tasks s.patterns k ≡ repeats t.tasks t.patterns k
    unfolding repeats
    same_repeats = ap₂ ◌/◌ (cycle_agree s t g) same_common

    pub same_jobs_from : jobs_of s.tasks (from_task s.patterns k) ≡ jobs_of t.tasks (from_task t.patterns k)
    same_jobs_from = jobs_of_agree s t g (from_task s.patterns k) (f.from_low k l) ∙ ap (jobs_of t.tasks) (same_from k l)

    pub same_jobs_to : jobs_of s.tasks (to_task s.patterns k) ≡ jobs_of t.tasks (to_task t.patterns k)
    same_jobs_to = jobs_of_agree s t g (to_task s.patterns k) (f.to_low k l) ∙ ap (jobs_of t.tasks) (same_to k l)

    module _ (q : ℕ) (h : q < pair_count s.patterns k) (n : ℕ) where
      pub same_link_from : link_from s.tasks s.patterns k q n ≡ link_from t.tasks t.patterns k q n
      unfolding link_from
      same_link_from =
          ap₂ (λ (a b : ℕ). a + n * b) (same_first k q l h)
          (ap₂ ◌/◌ same_common (same_period (from_task s.patterns k) (f.from_low k l) ∙ ap (λ (i : ℕ). period t.tasks i) (same_from k l)))

      pub same_link_to : link_to s.tasks s.patterns k q n ≡ link_to t.tasks t.patterns k q n
      unfolding link_to
      same_link_to =
          ap₂ (λ (a b : ℕ). a + n * b) (same_second k q l h)
          (ap₂ ◌/◌ same_common (same_period (to_task s.patterns k) (f.to_low k l) ∙ ap (λ (i : ℕ). period t.tasks i) (same_to k l)))
