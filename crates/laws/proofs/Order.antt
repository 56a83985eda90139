-- The jobs of a cycle by number: a number tells its task and its job, and a link's first job has one.
use Rattle.std.specs.Prelude.{◌≡◌, refl, Bool, ◌⊎◌, ℕ, zero, suc, ◌+◌, ◌*◌, ◌/◌, ◌<◌, ◌≤◌}
use Rattle.std.proofs.Math.Path.{sym, ap}
use Rattle.std.proofs.Common.{inl, inr, le-div_iff_mul-le, mul-le-mul, le_refl, arith}
use Rattle.std.specs.Int.{◌∣◌}
use Rattle.std.proofs.Math.Nat.{div-mul_cancel}
use Rattle.std.proofs.Math.Arith.{digits_lt}
use Rattle.std.proofs.Math.Dec.{ltb}
use borrow.Author.Tests.{lt-ltb, le-ltb, ltb-false}
use Rattle.vocabulary.proofs.Test.{lt_or_le}
use Rattle.vocabulary.specs.Least.{least, Least}
use Rattle.vocabulary.proofs.Least.{least_is, least_only}
use Rattle.vocabulary.proofs.Total.{total_none, total_suc, total_up}
use Rattle.kinds.specs.Tasks.{Tasks, Set, period, from_task, pair_count, pair_first}
use Rattle.kinds.specs.Cycle.{cycle, jobs_of, jobs_before, jobs}
use Rattle.kinds.specs.Jobs.{number_of_job, task_of_job, job_of_job}
use Rattle.kinds.specs.Links.{common, link_from, repeats}
use Rattle.kinds.proofs.SoundFacts.{Sound}

before_none : (u : Tasks) → jobs_before u 0 ≡ 0
unfolding jobs_before
before_none u = total_none (jobs_of u)

pub before_suc : (u : Tasks) (i : ℕ) → jobs_before u (suc i) ≡ jobs_before u i + jobs_of u i
unfolding jobs_before
before_suc u i = total_suc (jobs_of u) i

pub before_up : (u : Tasks) (i k : ℕ) → i ≤ k → jobs_before u i ≤ jobs_before u k
unfolding jobs_before
before_up u i k l = total_up (jobs_of u) i k l

pub number_sum : (u : Tasks) (i k : ℕ) → number_of_job u i k ≡ jobs_before u i + k
unfolding number_of_job
number_sum u i k = refl

module _ (u : Tasks) (i k : ℕ) (li : i < u.count) (lk : k < jobs_of u i) where
  pub task_of_number : task_of_job u (number_of_job u i k) ≡ i
  unfolding task_of_job number_of_job
  task_of_number =
      sym (least_only (λ j. ltb (jobs_before u i + k) (jobs_before u (suc j))) u.count i
      (record {
        within = omega arith;
        before = λ j l. le-ltb (jobs_before u i + k) (jobs_before u (suc j)) (omega (arith, before_up u (suc j) i (omega arith)));
        found = λ l. lt-ltb (jobs_before u i + k) (jobs_before u (suc i)) (omega (arith, before_suc u i));
      }))

  pub job_of_number : job_of_job u (number_of_job u i k) ≡ k
  unfolding job_of_job
  job_of_number =
      let e : jobs_before u (task_of_job u (number_of_job u i k)) ≡ jobs_before u i = ap (jobs_before u) task_of_number in omega (arith, e, number_sum u i k)

  pub number_low : number_of_job u i k < jobs u
  unfolding number_of_job jobs
  number_low = omega (arith, before_suc u i, before_up u (suc i) u.count (omega arith))

-- and back: a number below the cycle's jobs is that of its task's job
pub task_low : (u : Tasks) (x : ℕ) → x < jobs u → task_of_job u x < u.count
unfolding task_of_job jobs
task_low u x l = go u.count refl (lt_or_le r u.count)
  where
    f : ℕ → Bool
    f i = ltb x (jobs_before u (suc i))

    r : ℕ
    r = least f u.count

    q : Least f u.count r
    q = least_is f u.count

    go : (n : ℕ) → u.count ≡ n → (r < u.count) ⊎ (u.count ≤ r) → r < u.count
    go n e (inl h) = h
    go zero e (inr h) = absurd (omega (arith, ap (jobs_before u) e, before_none u))
    go (suc n) e (inr h) = absurd (omega (arith, ltb-false x (jobs_before u (suc n)) (q.before n (omega arith)), ap (jobs_before u) e))

-- ---- links
-- a + n * (p / t) is a job of the cycle
pub job_low : (h p t a n : ℕ) → 0 < t → t ∣ p → p ∣ h → a < p / t → n < h / p → a + n * (p / t) < h / t
job_low h p t a n pt dt dp la ln =
    let m : ℕ = h / p in
    let c : ℕ = p / t in
    let d : n * c + a < m * c = digits_lt ln la in
    (le-div_iff_mul-le pt).1
    (omega (
      arith,
      mul-le-mul (let e : suc (a + n * c) ≤ m * c = omega arith in e) (le_refl t),
      ap (λ (x : ℕ). m * x) (div-mul_cancel t dt),
      div-mul_cancel p dp,
    ))

module _ (s : Set) (f : Sound s) (k q n : ℕ) (lk : k < s.patterns.count) (lq : q < pair_count s.patterns k)
    (ln : n < repeats s.tasks s.patterns k) where
  -- the first job of a link that is counted in a cycle is a job of that cycle
  pub from_job_low : link_from s.tasks s.patterns k q n < jobs_of s.tasks (from_task s.patterns k)
  unfolding link_from jobs_of repeats
  from_job_low =
      job_low (cycle s.tasks) (common s.tasks s.patterns k) (period s.tasks (from_task s.patterns k)) (pair_first s.patterns k q) n
      (f.some_period (from_task s.patterns k) (f.from_low k lk)) (f.from_divides k lk) (f.whole k lk) (f.first_low k q lk lq) ln
