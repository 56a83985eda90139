-- Rule 10 as a whole, test by test in the order of the code: what each test says of `sound`.
use Rattle.std.specs.Prelude.{◌≡◌, Bool, ℕ, ◌<◌, ◌≤◌, leb, Option, Some, None, is_some}
use Rattle.std.proofs.Math.Path.{refl}
use Rattle.std.proofs.Common.{sym, ap, ◌∙◌, subst, arith}
use Rattle.std.proofs.Math.Bool.{true, false}
use borrow.Author.Tests.{le-leb, lt-leb, leb-true}
use Rattle.vocabulary.specs.Test.{pick}
use Rattle.vocabulary.proofs.Test.{both}
use Rattle.vocabulary.specs.Least.{all}
use Rattle.vocabulary.proofs.Least.{all_at, all_from}
use Rattle.kinds.specs.declared.Cycle.{Cycle}
use Rattle.kinds.specs.declared.Counts.{Counts}
use Rattle.kinds.specs.Limits.{holds, periods}
use Rattle.kinds.specs.Editions.{editions}
use Rattle.kinds.specs.Tasks.{Tasks, Set, tasks_of, patterns_of, period}
use Rattle.kinds.specs.Build.{tables_of, lent_set}
use Rattle.kinds.specs.Cycle.{cycle, jobs, cycle_fits, periods_fit, cycle_is, cycle_of}
use Rattle.kinds.specs.Sound.{attributes_fit, task_fits, pattern_fits, opening_fits, sound, sound_cycle, counts_of, patterns_tested, PatternsAsked}
use Rattle.kinds.specs.RangeLaws.{pick_some, pick_none, holds_at, holds_yes, holds_high}

pub few_tasks : (e n m : ℕ) → opening_fits e n m ≡ true → n ≤ 64
unfolding opening_fits
few_tasks e n m h = let w = holds_at 1 65 n (both (both {a = holds editions e} h).1).0 in omega arith

pub some_periods : (u : Tasks) → all (task_fits u) u.count ≡ true → (i : ℕ) → i < u.count → holds periods (period u i) ≡ true
unfolding task_fits attributes_fit
some_periods u h i l = (both (all_at (task_fits u) u.count h i l)).0

-- Whether a cycle was found says whether rule 5 is kept.
module _ (u : Tasks) (few : u.count ≤ 64) (fit : all (task_fits u) u.count ≡ true) where
  told : cycle_of u ≡ pick (cycle_fits u) (Some (cycle_is u)) None
  unfolding cycle_of periods_fit
  told =
      rw (le-leb u.count 64 few, all_from (λ i. holds periods (period u i)) u.count (some_periods u fit))

  pub cycle_unfit : None ≡ cycle_of u → cycle_fits u ≡ false
  cycle_unfit e = pick_none (cycle_fits u) _ (e ∙ told)

  pub cycle_fit : {c : Cycle} → Some c ≡ cycle_of u → (cycle_fits u ≡ true) × (c ≡ cycle_is u) × (c.ticks ≤ 6000)
  unfolding cycle_fits
  cycle_fit {c} e =
      let w = pick_some (cycle_fits u) (e ∙ told) in
      let t : c.ticks ≡ cycle u = ap (λ (x : Cycle). x.ticks) w.1 in
      (w.0, w.1, omega (arith, t, leb-true (cycle u) 6000 (both {a = leb (cycle u) 6000} w.0).0))

  pub cycle_is_lem : {r : Option Cycle} → r ≡ cycle_of u → cycle_fits u ≡ true → r ≡ Some (cycle_is u)
  cycle_is_lem e p = e ∙ told ∙ rw p

-- ---- what `sound_cycle` is, by the last test
pub no_cycle_lem : (s : Set) → false ≡ sound s → None ≡ sound_cycle s
unfolding sound_cycle
no_cycle_lem s e = rw (← e)

pub sound_cycle_lem : (s : Set) {c : Cycle} → sound s ≡ true → c ≡ cycle_is s.tasks → Some c ≡ sound_cycle s
unfolding sound_cycle
sound_cycle_lem s e q = rw (e, q)

-- there is one exactly where the set keeps rule 10
pub sound_by_cycle : (s : Set) {r : Option Cycle} {b : Bool} → r ≡ sound_cycle s → b ≡ is_some r → b ≡ sound s
unfolding sound_cycle
sound_by_cycle s {r} {b} e q = by (sound s) refl
  where
    by : (x : Bool) → sound s ≡ x → b ≡ sound s
    by true p = q ∙ rw (e, p)
    by false p = q ∙ rw (e, p)

-- ---- what `counts_of` is, by the cycle
pub counts_no_cycle : (s : Set) → None ≡ sound_cycle s → None ≡ counts_of s
unfolding counts_of sound_cycle
counts_no_cycle s e = rw (pick_none (sound s) _ e)

pub counts_cycle : (s : Set) {c : Cycle} → Some c ≡ sound_cycle s
    → Some (record { edition = s.edition; processors = s.processors; tasks = s.tasks.count; patterns = s.patterns.count; ticks = c.ticks; jobs = c.jobs })
    ≡ counts_of s
unfolding counts_of sound_cycle
counts_cycle s e = let w = pick_some (sound s) e in rw (w.0, w.1)

pub counts_none : (s : Set) → None ≡ counts_of s → sound s ≡ false
unfolding counts_of
counts_none s e = pick_none (sound s) _ e

-- the numbers of a set that keeps rule 10
pub record CountsFound (s : Set) (f : Counts) : Type 0 where
  pub is_sound : sound s ≡ true
  pub edition : f.edition ≡ s.edition
  pub processors : f.processors ≡ s.processors
  pub tasks : f.tasks ≡ s.tasks.count
  pub patterns : f.patterns ≡ s.patterns.count
  pub ticks : f.ticks ≡ cycle s.tasks
  pub jobs : f.jobs ≡ jobs s.tasks

pub counts_found : (s : Set) {f : Counts} → Some f ≡ counts_of s → CountsFound s f
unfolding counts_of
counts_found s {f} e =
    let w = pick_some (sound s) e in
    record {
      is_sound = w.0;
      edition = ap (λ (c : Counts). c.edition) w.1;
      processors = ap (λ (c : Counts). c.processors) w.1;
      tasks = ap (λ (c : Counts). c.tasks) w.1;
      patterns = ap (λ (c : Counts). c.patterns) w.1;
      ticks = ap (λ (c : Counts). c.ticks) w.1;
      jobs = ap (λ (c : Counts). c.jobs) w.1;
    }

-- a set by value with the numbers that were found is that of its tables
module _ (s : Set) {f : Counts} (c : CountsFound s f) where
  pub lent_is : lent_set f (tables_of s.tasks.attributes s.patterns.headings s.patterns.pairs) ≡ s
  lent_is = by c.edition c.processors c.tasks c.patterns
    where
      by : {e m n k : ℕ} → e ≡ s.edition → m ≡ s.processors → n ≡ s.tasks.count → k ≡ s.patterns.count
          → record {
            edition = e;
            processors = m;
            tasks = tasks_of n s.tasks.attributes;
            patterns = patterns_of k s.patterns.headings s.patterns.pairs;
          }
          ≡ s
      by a b d g = rw (a, b, d, g)

  pub lent_found : CountsFound (lent_set f (tables_of s.tasks.attributes s.patterns.headings s.patterns.pairs)) f
  lent_found = subst (λ (z : Set). CountsFound z f) (sym lent_is) c

-- ---- the ways out
-- Each section adds one test that passed.
module _ (s : Set) where
  pub not_opening : opening_fits s.edition s.tasks.count s.processors ≡ false → false ≡ sound s
  unfolding sound
  not_opening h = rw h

  module _ (o : opening_fits s.edition s.tasks.count s.processors ≡ true) where
    pub not_tasks : all (task_fits s.tasks) s.tasks.count ≡ false → false ≡ sound s
    unfolding sound
    not_tasks h = rw (o, h)

    module _ (t : all (task_fits s.tasks) s.tasks.count ≡ true) where
      few : s.tasks.count ≤ 64
      few = few_tasks s.edition s.tasks.count s.processors o

      pub not_cycle : None ≡ cycle_of s.tasks → false ≡ sound s
      unfolding sound
      not_cycle e = rw (o, t, cycle_unfit s.tasks few t e)

      module _ {c : Cycle} (e : Some c ≡ cycle_of s.tasks) where
        fit : (cycle_fits s.tasks ≡ true) × (c ≡ cycle_is s.tasks) × (c.ticks ≤ 6000)
        fit = cycle_fit s.tasks few t e

        pub not_patterns_few : 64 < s.patterns.count → false ≡ sound s
        unfolding sound
        not_patterns_few l = rw (o, t, fit.0, holds_high 0 65 s.patterns.count l)

        module _ (l : s.patterns.count ≤ 64) where
          pub patterns_asked : PatternsAsked s.tasks s.patterns c.ticks
          patterns_asked =
              record {
                tasks = few;
                patterns = l;
                periods = λ i h. let w = holds_at 1 6001 (period s.tasks i) (some_periods s.tasks t i h) in (w.0, omega arith);
                ticks = ap (λ (x : Cycle). x.ticks) fit.1;
                short = fit.2;
              }

          pub not_patterns : None ≡ patterns_tested s.edition s.tasks s.patterns → false ≡ sound s
          unfolding sound patterns_tested
          not_patterns p =
              let h = pick_none (all (pattern_fits s.edition s.tasks s.patterns) s.patterns.count) _ p in
              rw (o, t, fit.0, holds_yes 0 65 s.patterns.count (omega arith) (omega arith), h)

          module _ {n : ℕ} (p : Some n ≡ patterns_tested s.edition s.tasks s.patterns) where
            by_links : leb n 4096 ≡ sound s
            unfolding sound patterns_tested
            by_links =
                let w = pick_some (all (pattern_fits s.edition s.tasks s.patterns) s.patterns.count) p in
                rw (o, t, fit.0, holds_yes 0 65 s.patterns.count (omega arith) (omega arith), w.0, w.1)

            pub too_many : 4096 < n → false ≡ sound s
            too_many h = sym (lt-leb n 4096 h) ∙ by_links

            pub all_in : n ≤ 4096 → Some c ≡ sound_cycle s
            all_in h = sound_cycle_lem s (sym by_links ∙ le-leb n 4096 h) fit.1
