-- The table before the walk: the number of each task's first job.
use mathlib.Core.Path.{◌≡◌, sym, ◌∙◌}
use mathlib.Core.List.{List}
use Prim.Native.Nat.{ℕ, ◌+◌, ◌/◌, ◌<◌, ◌≤◌}
use native.Mathlib.Omega.{arith}
use lib.ListN.{get_or, length, set, length-set}
use lib.Seq.{get_or-set_same, get_or-set_other}
use borrow.Author.Count.{below_more}
use Rattle.vocabulary.proofs.Total.{total_none, total_more}
use Rattle.kinds.specs.declared.Task.{Task}
use Rattle.kinds.specs.Tasks.{Tasks, task_at, task_in, task_in_lem, period}
use Rattle.kinds.specs.Cycle.{cycle, jobs_of, jobs_before, jobs}
use Rattle.laws.proofs.Order.{before_up}
use Rattle.judge.specs.JobOfSlot.{FirstJobs}
use Rattle.judge.specs.TableNeeds.{Countable}

-- The table is filled for the first i tasks, and a is the number of the next task's first job.
pub record FirstJobsTo (u : Tasks) (i a : ℕ) (bs : List ℕ) : Type 0 where
  pub next : a ≡ jobs_before u i
  pub long : length bs ≡ 64
  pub each : (j : ℕ) → j < i → get_or bs j 0 ≡ jobs_before u j

pub first_from : (u : Tasks) (bs : List ℕ) → length bs ≡ 64 → FirstJobsTo u 0 0 bs
unfolding jobs_before
first_from u bs l = record { next = sym (total_none (jobs_of u)); long = l; each = λ j h. absurd (omega arith) }

module _ (u : Tasks) (h i a : ℕ) (bs : List ℕ) (f : Countable u h) (w : FirstJobsTo u i a bs) (l : i < u.count) {t : Task} (et : t ≡ task_in u.attributes i) where
  task_is : t ≡ task_at u.attributes i
  task_is = et ∙ task_in_lem u.attributes i (omega (arith, f.few))

  pub first_some : 0 < t.period
  first_some = rw task_is (f.some_period i l)

  module _ {k : ℕ} (ek : k ≡ h / t.period) where
    after : a + k ≡ jobs_before u (i + 1)
    unfolding jobs_before jobs_of
    after =
        let e : k ≡ cycle u / period u i = ek ∙ rw (task_is, f.ticks) in
        omega (arith, w.next, e, total_more (λ j. cycle u / period u j) i)

    pub first_room : a + k ≤ 2048
    unfolding jobs
    first_room = omega (arith, after, before_up u (i + 1) u.count (omega arith), f.few_jobs)

    pub first_on : FirstJobsTo u (i + 1) (a + k) (set bs i a)
    first_on =
        record {
          next = after;
          long = length-set bs i a ∙ w.long;
          each =
              below_more (λ (j : ℕ). get_or (set bs i a) j 0 ≡ jobs_before u j) i
              (λ j g. get_or-set_other bs i j a 0 (λ q. omega arith) ∙ w.each j g)
              (get_or-set_same bs i a 0 (omega (arith, w.long, f.few)) ∙ w.next);
        }

pub first_end : (u : Tasks) (i a : ℕ) (bs : List ℕ) → FirstJobsTo u i a bs → u.count ≤ i → FirstJobs u bs
first_end u i a bs w l = record { each = λ j h. w.each j (omega arith) }
