-- First theorems: what is least is one, periods divide the cycle, a cycle holds its jobs, and one cycle speaks for all time.
use Rattle.std.specs.Prelude.{◌≡◌, refl, Bool, List, ◌↔◌, ℕ, suc, ◌+◌, ◌*◌, ◌/◌, ◌%◌, ◌<◌, ◌≤◌}
use Rattle.std.proofs.Common.{sym, ◌∙◌, mul-le-mul, le_refl, arith}
use Rattle.std.specs.Int.{◌∣◌}
use Rattle.std.proofs.Math.Nat.{div-mul_cancel}
use Rattle.vocabulary.specs.Least.{Least}
use Rattle.vocabulary.proofs.Least.{least_only}
use Rattle.vocabulary.proofs.Multiple.{lcm_of_dvd}
use Rattle.kinds.specs.Tasks.{Tasks, Set, period, offset, from_task, to_task}
use Rattle.kinds.specs.Cycle.{cycle, jobs_of}
use Rattle.kinds.specs.Jobs.{release, due, in_window}
use Rattle.kinds.specs.Links.{link_from, link_to, repeats}
use Rattle.kinds.specs.Plans.{Plan, plan_of, ticks}
use Rattle.kinds.specs.Valid.{LinkKept}
use Rattle.kinds.proofs.SoundFacts.{Sound}
use Rattle.judge.specs.Rules.{breaks}
use Rattle.laws.proofs.Repeat.{ticks_again}
use Rattle.laws.proofs.Windows.{window_again}
use Rattle.theorems.specs.LinkLaws.{breaks_again, kept_again}

-- the jobs before and with job k are no more than the cycle's: their periods fit into the cycle
room : (s : Set) → Sound s → (i k : ℕ) → i < s.tasks.count → k < jobs_of s.tasks i → k * period s.tasks i + period s.tasks i ≤ cycle s.tasks
unfolding jobs_of
room s f i k li lk =
    let t : ℕ = period s.tasks i in
    let n : ℕ = cycle s.tasks / t in
    omega (arith, mul-le-mul {n₁ = suc k} {m₁ = t} {n₂ = n} {m₂ = t} lk (le_refl t), div-mul_cancel t (f.divides i li))

-- where job k of task i lies, if the jobs are those of a cycle
pub record JobInCycle (u : Tasks) (i k : ℕ) : Type 0 where
  pub released : offset u i ≤ release u i k
  pub next : release u i k + period u i ≤ offset u i + cycle u
  pub ended : due u i k ≤ offset u i + cycle u

-- the n-th link of pair q of pattern k is kept
abbrev pub LinkOf : Set → Plan → ℕ → ℕ → ℕ → Type 0
LinkOf s p k q n =
    LinkKept s.tasks p (from_task s.patterns k) (link_from s.tasks s.patterns k q n) (to_task s.patterns k)
    (link_to s.tasks s.patterns k q n)

-- what one cycle says of all time, for the plan of a set
pub record OneCycle (s : Set) (p : Plan) : Type 0 where
  pub counts : (i k : ℕ) → i < s.tasks.count → ticks s.tasks p i k ≡ ticks s.tasks p i (k % jobs_of s.tasks i)
  pub windows : (i k t : ℕ) → i < s.tasks.count
      → in_window s.tasks i k (t + k / jobs_of s.tasks i * cycle s.tasks) ≡ in_window s.tasks i (k % jobs_of s.tasks i) t
  pub links : (k q n : ℕ) → k < s.patterns.count → LinkOf s p k q n ↔ LinkOf s p k q (n % repeats s.tasks s.patterns k)
  pub broken : (k q n : ℕ) → k < s.patterns.count
      → breaks s.tasks s.patterns p k q n ≡ breaks s.tasks s.patterns p k q (n % repeats s.tasks s.patterns k)

-- ==== Two numbers that are the least below n to pass a test are equal.
pub least_unique : (f : ℕ → Bool) (n a b : ℕ) → Least f n a → Least f n b → a ≡ b
least_unique f n a b p q = least_only f n a p ∙ sym (least_only f n b q)

-- ==== The period of each task divides the cycle.
pub period_divides : (s : Set) → Sound s → (i : ℕ) → i < s.tasks.count → period s.tasks i ∣ cycle s.tasks
unfolding cycle
period_divides s f i l = lcm_of_dvd (period s.tasks) s.tasks.count i f.some_period l

-- ==== Each job of a cycle is released at O or later; its period ends by O + H, where the task's next cycle begins, and so does its window.
pub job_in_cycle : (s : Set) → Sound s → (i k : ℕ) → i < s.tasks.count → k < jobs_of s.tasks i → JobInCycle s.tasks i k
unfolding release due
job_in_cycle s f i k li lk =
    let r = room s f i k li lk in
    record { released = omega arith; next = omega arith; ended = omega (arith, f.deadline_low i li) }

-- ==== One cycle speaks for all time: each job gets what the job of the first cycle gets that it repeats, its window is that job's window put off by
-- whole cycles, and each link is kept exactly where the link of the first cycle is that it repeats; so the judge's test of links comes again, too.
pub one_cycle : (s : Set) → Sound s → (slots : List ℕ) → OneCycle s (plan_of s slots)
one_cycle s f slots =
    record {
      counts = λ i k l. ticks_again s.tasks (plan_of s slots) i k refl (f.divides i l);
      windows = λ i k t l. window_again s.tasks i k t (f.divides i l);
      links = λ k q n l. kept_again s f slots k q n l;
      broken = λ k q n l. breaks_again s f slots k q n l;
    }
