-- The verdict claims what is so, and no other verdict does.
use Rattle.std.specs.Prelude.{◌≡◌, List, ℕ, ◌*◌, length}
use Rattle.std.proofs.Math.Path.{refl, sym, ap}
use Rattle.std.proofs.Common.{◌∙◌}
use Rattle.std.proofs.Math.Bool.{not}
use borrow.Author.Tests.{not-true, not-false, eqb-true, eqb-false, eq-eqb, ne_eqb}
use Rattle.vocabulary.specs.Least.{least}
use Rattle.vocabulary.specs.First.{first_of, from, Each, ◌also◌, Told, KeptBy}
use Rattle.vocabulary.proofs.First.{first_from, first_told}
use Rattle.vocabulary.proofs.Lowest.{lowest_some, lowest_least, lowest2_some}
use Rattle.vocabulary.proofs.Lowest.{none_holds, holds_none, lowest, none_holds2, holds_none2, lowest2}
use Rattle.vocabulary.proofs.Lowest.{lowest2_first, lowest2_second, lowest3_some, lowest3_first, lowest3_second}
use Rattle.vocabulary.proofs.Lowest.{none_holds3, holds_none3, lowest3}
use Rattle.vocabulary.proofs.Lowest.{lowest3_third}
use Rattle.kinds.specs.Tasks.{Tasks, Patterns, Set, pair_count}
use Rattle.kinds.specs.Cycle.{cycle, jobs_of}
use Rattle.kinds.specs.Links.{repeats}
use Rattle.kinds.specs.Plans.{Plan, plan_of}
use Rattle.kinds.specs.Sound.{sound}
use Rattle.kinds.specs.JobTicks.{Gets}
use Rattle.laws.proofs.JobTicks.{gets_is, gets_ticks}
use Rattle.judge.specs.declared.Verdict.{Verdict}
use Rattle.judge.specs.declared.Verdict.TheVariants as verdict
use Rattle.judge.specs.Rules.{twin, mated, clashes, strays, strayed, miscounts, miscounted, breaks, broken_pair, broken_pattern}
use Rattle.judge.specs.Answers.{number_of}
use Rattle.judge.specs.Judgement.{high_at, twice_at, outside_at, wrong_at, broken_at, plan_rules, rules, verdict_of}
use Rattle.theorems.specs.Names.{claims, Breach, Names}
use Rattle.theorems.specs.RuleLaws.{high_search, twin_search, stray_search, count_search, link_search}

-- ---- evidence by its searches
twice_is : (p : Plan) (t q r : ℕ) → t ≡ least (clashes p) p.cycle → q ≡ least (mated p t) p.processors → r ≡ least (twin p t q) p.processors
    → verdict.Twice t q r ≡ twice_at p
unfolding twice_at
twice_is p t q r a b c = rw (← a, ← b, ← c)

outside_is : (u : Tasks) (p : Plan) (c q : ℕ) → c ≡ least (strayed u p) p.cycle → q ≡ least (strays u p c) p.processors
    → verdict.Outside c q ≡ outside_at u p
unfolding outside_at
outside_is u p c q a b = rw (← a, ← b)

wrong_is : (u : Tasks) (p : Plan) (i k : ℕ) {c a b : ℕ} → i ≡ least (miscounted u p) u.count → k ≡ least (miscounts u p i) (jobs_of u i)
    → Gets u p i k c a b → verdict.WrongCount i k c a b ≡ wrong_at u p
unfolding wrong_at
wrong_is u p i k x y g = let w = gets_ticks u p i k g in rw (← x, ← y, ← w.0, ← w.1, ← w.2)

broken_is : (u : Tasks) (v : Patterns) (p : Plan) (k q n : ℕ) → k ≡ least (broken_pattern u v p) v.count
    → q ≡ least (broken_pair u v p k) (pair_count v k) → n ≡ least (breaks u v p k q) (repeats u v k) → verdict.BrokenLink k q n ≡ broken_at u v p
unfolding broken_at
broken_is u v p k q n a b c = rw (← a, ← b, ← c)

module _ (s : Set) (slots : List ℕ) where
  abbrev u : Tasks
  u = s.tasks

  abbrev v : Patterns
  v = s.patterns

  abbrev p : Plan
  p = plan_of s slots

  abbrev m : ℕ
  m = s.processors

  abbrev h : ℕ
  h = cycle s.tasks

  -- ---- each rule's test tells whether it is kept, and its answer bears its number and its lowest evidence
  told : Each (Told (KeptBy (claims s slots)) (Breach s slots) number_of) (rules s slots)
  unfolding claims KeptBy Breach rules plan_rules high_at twice_at outside_at wrong_at broken_at
  told =
      record { kept = (λ e. record { sound = not-false (sound s) e }, λ k. ap not k.sound); breach = λ e. not-true (sound s) e; number = refl }
      also record {
        kept = (λ e. record { long = eqb-true (length slots) (m * h) (not-false _ e) }, λ k. ap not (eq-eqb (length slots) (m * h) k.long));
        breach = λ e. eqb-false (length slots) (m * h) (not-true _ e);
        number = refl;
      }
      also record {
        kept = (λ e. record { none = none_holds (high_search s slots) (length slots) e }, λ k. holds_none (high_search s slots) (length slots) k.none);
        breach = λ e. lowest (high_search s slots) (length slots) e;
        number = refl;
      }
      also record {
        kept = (λ e. record { none = none_holds3 (twin_search p) h e }, λ k. holds_none3 (twin_search p) h k.none);
        breach = λ e. lowest3 (twin_search p) h e;
        number = refl;
      }
      also record {
        kept = (λ e. record { none = none_holds2 (stray_search u p) h e }, λ k. holds_none2 (stray_search u p) h k.none);
        breach = λ e. lowest2 (stray_search u p) h e;
        number = refl;
      }
      also record {
        kept = (λ e. record { none = none_holds2 (count_search u p) u.count e }, λ k. holds_none2 (count_search u p) u.count k.none);
        breach = λ e. (lowest2 (count_search u p) u.count e, gets_is u p _ _);
        number = refl;
      }
      also record {
        kept = (λ e. record { none = none_holds3 (link_search u v p) v.count e }, λ k. holds_none3 (link_search u v p) v.count k.none);
        breach = λ e. lowest3 (link_search u v p) v.count e;
        number = refl;
      }
      also tt

  -- ---- a claim that is so is that of the verdict: all rules before its own are kept, so that the verdict is that of the chain from there on
  at : (x : Verdict) → Names s slots x → verdict_of s slots ≡ first_of (from (number_of x) (rules s slots)) verdict.Accepted
  unfolding verdict_of rules plan_rules claims
  at x n = first_from verdict.Accepted (KeptBy (claims s slots)) (Breach s slots) number_of (rules s slots) (number_of x) told n.kept

  pub is_verdict : (x : Verdict) → Names s slots x → x ≡ verdict_of s slots
  unfolding Breach rules plan_rules from first_of high_at
  is_verdict verdict.Accepted n = sym (at verdict.Accepted n)
  is_verdict verdict.BadSet n = sym (at verdict.BadSet n ∙ rw n.broken)
  is_verdict verdict.WrongLength n = sym (at verdict.WrongLength n ∙ rw (ne_eqb (length slots) (m * h) n.broken))
  is_verdict (verdict.BadSlot e) n =
      let f = high_search s slots in
      let w = n.broken in
      sym (at (verdict.BadSlot e) n ∙ rw (lowest_some f (length slots) w, ← lowest_least f (length slots) w))
  is_verdict (verdict.Twice t q r) n =
      let f = twin_search p in
      let w = n.broken in
      twice_is p t q r (lowest3_first f h w) (lowest3_second f h w) (lowest3_third f h w) ∙ sym (at (verdict.Twice t q r) n ∙ rw (lowest3_some f h w))
  is_verdict (verdict.Outside c q) n =
      let f = stray_search u p in
      let w = n.broken in
      outside_is u p c q (lowest2_first f h w) (lowest2_second f h w) ∙ sym (at (verdict.Outside c q) n ∙ rw (lowest2_some f h w))
  is_verdict (verdict.WrongCount i k c a b) n =
      let f = count_search u p in
      let w = n.broken.0 in
      wrong_is u p i k (lowest2_first f u.count w) (lowest2_second f u.count w) n.broken.1
      ∙ sym (at (verdict.WrongCount i k c a b) n ∙ rw (lowest2_some f u.count w))
  is_verdict (verdict.BrokenLink k q x) n =
      let f = link_search u v p in
      let w = n.broken in
      broken_is u v p k q x (lowest3_first f v.count w) (lowest3_second f v.count w) (lowest3_third f v.count w)
      ∙ sym (at (verdict.BrokenLink k q x) n ∙ rw (lowest3_some f v.count w))

  -- ---- the verdict's claim is so
  pub verdict_names : Names s slots (verdict_of s slots)
  unfolding verdict_of Breach rules plan_rules claims
  verdict_names =
      let w = first_told verdict.Accepted (KeptBy (claims s slots)) (Breach s slots) number_of (rules s slots) told tt in
      record { kept = w.0; broken = w.1 }
