-- The order of the answers, rules R8.5 and R9.5: each way through, from what the tests before it said.
use Rattle.std.specs.Prelude.{Some, None, Ok, Err}
use mathlib.Core.Path.{◌≡◌}
use mathlib.Core.Bool.{true, false}
use Prim.Native.Nat.{ℕ, ◌≤◌, ◌<◌}
use borrow.Author.Tests.{lt-ltb, le-ltb, eq-eqb, ne_eqb}
use Rattle.vocabulary.specs.First.{first_of}
use Rattle.kinds.specs.Tasks.{Set}
use Rattle.kinds.specs.Cycle.{jobs}
use Rattle.kinds.specs.Jobs.{task_of_job, job_of_job}
use Rattle.kinds.specs.Sound.{sound}
use Rattle.network.specs.Causes.{load, room, lowest_cycle, lowest_tight}
use Rattle.screen.specs.Findings.{screen_rules, finding_by, finding_of, adjust_rules, adjusted_of}
use Rattle.screen.specs.declared.Finding.TheVariants as finding
use Rattle.screen.specs.declared.Unadjusted.TheVariants as unadjusted

pub not_sound : (s : Set) → sound s ≡ false → finding_of s ≡ Some finding.BadSet
unfolding finding_by screen_rules first_of
not_sound s e = rw e

module _ (s : Set) (e : sound s ≡ true) where
  pub on_cycle_lem : lowest_cycle s < jobs s.tasks
      → finding_of s ≡ Some (finding.Cycle (task_of_job s.tasks (lowest_cycle s)) (job_of_job s.tasks (lowest_cycle s)))
  unfolding finding_by screen_rules first_of
  on_cycle_lem l = rw (e, lt-ltb _ _ l)

  module _ (free : jobs s.tasks ≤ lowest_cycle s) where
    pub overloaded : room s < load s.tasks → finding_of s ≡ Some (finding.Overload (load s.tasks) (room s))
    unfolding finding_by screen_rules first_of
    overloaded l = rw (e, le-ltb _ _ free, lt-ltb _ _ l)

    module _ (light : load s.tasks ≤ room s) where
      pub too_tight : lowest_tight s < jobs s.tasks
          → finding_of s ≡ Some (finding.TooTight (task_of_job s.tasks (lowest_tight s)) (job_of_job s.tasks (lowest_tight s)))
      unfolding finding_by screen_rules first_of
      too_tight l = rw (e, le-ltb _ _ free, le-ltb _ _ light, lt-ltb _ _ l)

      pub nothing_found : jobs s.tasks ≤ lowest_tight s → finding_of s ≡ None
      unfolding finding_by screen_rules first_of
      nothing_found l = rw (e, le-ltb _ _ free, le-ltb _ _ light, le-ltb _ _ l)

-- ---- each answer, for buffers of p and q places
module _ (s : Set) (p q : ℕ) where
  pub unsound_set : sound s ≡ false → Err unadjusted.BadSet ≡ adjusted_of s p q
  unfolding adjusted_of adjust_rules first_of
  unsound_set e = rw e

  module _ (e : sound s ≡ true) where
    pub wrong_releases : (p ≡ jobs s.tasks → ⊥) → Err unadjusted.WrongLength ≡ adjusted_of s p q
    unfolding adjusted_of adjust_rules first_of
    wrong_releases h = rw (e, ne_eqb p (jobs s.tasks) h)

    module _ (ep : p ≡ jobs s.tasks) where
      pub wrong_deadlines : (q ≡ jobs s.tasks → ⊥) → Err unadjusted.WrongLength ≡ adjusted_of s p q
      unfolding adjusted_of adjust_rules first_of
      wrong_deadlines h = rw (e, eq-eqb p (jobs s.tasks) ep, ne_eqb q (jobs s.tasks) h)

      module _ (eq : q ≡ jobs s.tasks) where
        pub with_cycle : lowest_cycle s < jobs s.tasks
            → Err (unadjusted.Cycle (task_of_job s.tasks (lowest_cycle s)) (job_of_job s.tasks (lowest_cycle s))) ≡ adjusted_of s p q
        unfolding adjusted_of adjust_rules first_of
        with_cycle l = rw (e, eq-eqb p (jobs s.tasks) ep, eq-eqb q (jobs s.tasks) eq, lt-ltb (lowest_cycle s) (jobs s.tasks) l)

        pub without_cycle : jobs s.tasks ≤ lowest_cycle s → Ok tt ≡ adjusted_of s p q
        unfolding adjusted_of adjust_rules first_of
        without_cycle l = rw (e, eq-eqb p (jobs s.tasks) ep, eq-eqb q (jobs s.tasks) eq, le-ltb (lowest_cycle s) (jobs s.tasks) l)
