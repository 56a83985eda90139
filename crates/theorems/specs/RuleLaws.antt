-- Each test of the judge says what its rule says, at every place.
use Rattle.std.specs.Prelude.{◌≡◌, true, List, eqb, get_or}
use Rattle.std.proofs.Math.Path.{refl, ap}
use Rattle.std.proofs.Math.Bool.{not}
use Rattle.std.proofs.Math.Logic.{⊎_elim}
use Prim.Native.Nat.{ℕ}
use Rattle.std.proofs.Math.Dec.{ltb}
use borrow.Author.Tests.{ltb-true, leb-true, eqb-true, eqb-false, not-true, lt-ltb, le-leb, eq-eqb, ne_eqb}
use Rattle.vocabulary.proofs.Test.{clash, both, decide}
use Rattle.kinds.specs.Tasks.{Tasks, Patterns, Set, running, from_task, to_task, pair_count}
use Rattle.kinds.specs.Cycle.{jobs_of}
use Rattle.kinds.specs.Links.{link_from, link_to, repeats}
use Rattle.kinds.specs.Plans.{Plan, slot, ticks}
use Rattle.slots.specs.High.{high}
use Rattle.judge.specs.Rules.{twin, mated, clashes, strays, strayed, miscounts, miscounted, broken, breaks, broken_pair, broken_pattern}
use Rattle.vocabulary.specs.Lowest.{Search, Search2, Search3}
use Rattle.theorems.specs.Names.{TooHigh, Doubled, Misplaced, Miscounted, LinkBroken}
use Rattle.judge.proofs.Broken.{kept_iff}

-- 12
pub high_search : (s : Set) (slots : List ℕ) → Search (TooHigh s slots) (high slots s.tasks.count)
unfolding high
high_search s slots = record { says = λ e. ltb-true s.tasks.count (get_or slots e 0); sees = λ e. lt-ltb s.tasks.count (get_or slots e 0) }

-- 20
module _ (p : Plan) where
  twin_says : (t q r : ℕ) → twin p t q r ≡ true → Doubled p t q r
  unfolding twin
  twin_says t q r e =
      let a = both {a = ltb q r} e in
      let b = both {a = not (eqb (slot p t q) 0)} a.1 in
      record { order = ltb-true q r a.0; busy = eqb-false (slot p t q) 0 (not-true _ b.0); same = eqb-true (slot p t r) (slot p t q) b.1 }

  twin_sees : (t q r : ℕ) → Doubled p t q r → twin p t q r ≡ true
  unfolding twin
  twin_sees t q r d = rw (lt-ltb q r d.order, ne_eqb (slot p t q) 0 d.busy) (eq-eqb (slot p t r) (slot p t q) d.same)

  pub twin_search : Search3 (Doubled p) (λ x. p.processors) (λ x y. p.processors) (twin p) (mated p) (clashes p)
  unfolding mated clashes
  twin_search = record { says = twin_says; sees = twin_sees; one = λ x y. refl; two = λ x. refl }

-- 21
module _ (u : Tasks) (p : Plan) where
  stray_says : (c q : ℕ) → strays u p c q ≡ true → Misplaced u p c q
  unfolding strays
  stray_says c q e =
      let a = both {a = not (eqb (slot p c q) 0)} e in
      record { busy = eqb-false (slot p c q) 0 (not-true _ a.0); late = leb-true _ _ a.1 }

  stray_sees : (c q : ℕ) → Misplaced u p c q → strays u p c q ≡ true
  unfolding strays
  stray_sees c q d = rw (ne_eqb (slot p c q) 0 d.busy) (le-leb _ _ d.late)

  pub stray_search : Search2 (Misplaced u p) (λ x. p.processors) (strays u p) (strayed u p)
  unfolding strayed
  stray_search = record { says = stray_says; sees = stray_sees; one = λ x. refl }

  -- 22
  count_says : (i k : ℕ) → miscounts u p i k ≡ true → Miscounted u p i k
  unfolding miscounts
  count_says i k e = eqb-false (ticks u p i k) (running u i) (not-true _ e)

  count_sees : (i k : ℕ) → Miscounted u p i k → miscounts u p i k ≡ true
  unfolding miscounts
  count_sees i k d = ap not (ne_eqb (ticks u p i k) (running u i) d)

  pub count_search : Search2 (Miscounted u p) (jobs_of u) (miscounts u p) (miscounted u p)
  unfolding miscounted
  count_search = record { says = count_says; sees = count_sees; one = λ x. refl }

-- 23
module _ (u : Tasks) (v : Patterns) (p : Plan) where
  link_says : (k q n : ℕ) → breaks u v p k q n ≡ true → LinkBroken u v p k q n
  unfolding breaks
  link_says k q n e w = clash e ((kept_iff u p (from_task v k) (link_from u v k q n) (to_task v k) (link_to u v k q n)).1 w)

  link_sees : (k q n : ℕ) → LinkBroken u v p k q n → breaks u v p k q n ≡ true
  unfolding breaks
  link_sees k q n d =
      let i : ℕ = from_task v k in
      let x : ℕ = link_from u v k q n in
      let j : ℕ = to_task v k in
      let y : ℕ = link_to u v k q n in
      ⊎_elim (λ e. e) (λ e. absurd (d ((kept_iff u p i x j y).0 e))) (decide (broken u p i x j y))

  pub link_search : Search3 (LinkBroken u v p) (pair_count v) (λ x y. repeats u v x) (breaks u v p) (broken_pair u v p) (broken_pattern u v p)
  unfolding broken_pair broken_pattern
  link_search = record { says = link_says; sees = link_sees; one = λ x y. refl; two = λ x. refl }
