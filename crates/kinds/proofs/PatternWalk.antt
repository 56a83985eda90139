-- The walk over the patterns that tests them and adds up their links: what holds at each pattern, and its steps.
use mathlib.Core.Path.{◌≡◌, refl, sym, ap, ap₂, ◌∙◌}
use mathlib.Core.Bool.{Bool, true, false, not, ◌&&◌}
use Rattle.std.specs.Prelude.{Some, None}
use mathlib.Core.List.{List}
use Prim.Native.Nat.{ℕ, ◌+◌, ◌*◌, ◌/◌, ◌<◌, ◌≤◌}
use native.Mathlib.Nat.{le_trans, div-le_self, mul-le-mul_left, le_antisymm}
use native.Mathlib.Numerals.{add-one}
use native.Mathlib.Omega.{arith}
use lib.Dec.{leb, eqb}
use borrow.Author.Tests.{leb-true, eqb-false, ne_eqb, not-true}
use Rattle.vocabulary.specs.Test.{pick}
use Rattle.vocabulary.proofs.Test.{both, clash}
use Rattle.vocabulary.specs.Least.{all, Passing}
use Rattle.vocabulary.proofs.Least.{all_fails, pass_from, pass_on, pass_end}
use Rattle.vocabulary.specs.Total.{total}
use Rattle.vocabulary.proofs.Total.{total_none, total_more}
use Rattle.vocabulary.specs.Multiple.{lcm}
use Rattle.vocabulary.proofs.Multiple.{lcm_pos}
use Rattle.kinds.specs.declared.Key.{Key}
use Rattle.kinds.specs.declared.Spans.{Spans}
use Rattle.kinds.specs.declared.Pattern.{Pattern}
use Rattle.kinds.specs.Limits.{rises, no_key, after}
use Rattle.kinds.specs.Tasks.{Tasks, Patterns, period, from_task, to_task, pair_count, pairs_before, pattern_in, pattern_in_lem}
use Rattle.kinds.specs.Links.{common, first_reach, reach, repeats, links_of, links, spans_of, links_in}
use Rattle.kinds.specs.Sound.{pair_fits, pattern_key, heading_fits, pattern_fits, pattern_tested, patterns_tested, PatternsAsked}
use Rattle.kinds.specs.RangeLaws.{pick_some, pick_none, holds_yes, holds_at, pairs_none, pairs_more}

-- ---- one pattern more
pub pattern_key_none : (v : Patterns) → pattern_key v 0 ≡ no_key
unfolding pattern_key
pattern_key_none v = refl

pub pattern_key_more : (v : Patterns) (k : ℕ) → pattern_key v (k + 1) ≡ after (from_task v k) (to_task v k)
unfolding pattern_key
pattern_key_more v k = rw (add-one k)

pub before_none : (v : Patterns) → pairs_before v 0 ≡ 0
before_none v = pairs_none v.headings

pub before_more : (v : Patterns) (k : ℕ) → pairs_before v (k + 1) ≡ pairs_before v k + pair_count v k
before_more v k = pairs_more v.headings k

-- ---- what it means that the head of a pattern fits
pub record HeadingFacts (n : ℕ) (low : Key) (x y count used : ℕ) : Type 0 where
  pub from_low : x < n
  pub to_low : y < n
  pub apart : x ≡ y → ⊥
  pub some : 0 < count
  pub room : used + count ≤ 1024

pub heading_facts : (n : ℕ) (low : Key) (x y count used : ℕ) → heading_fits n low x y count used ≡ true → HeadingFacts n low x y count used
unfolding heading_fits rises
heading_facts n low x y count used e =
    let a = both {a = rises low n n x y} e in
    let r = both a.0 in
    let b = both {a = not (eqb x y)} a.1 in
    let d = both {a = leb 1 count} b.1 in
    record {
      from_low = (holds_at low.first n x r.0).1;
      to_low = (holds_at _ n y r.1).1;
      apart = eqb-false x y (not-true (eqb x y) b.0);
      some = leb-true 1 count d.0;
      room = leb-true (used + count) 1024 d.1;
    }

-- ---- the spans and the links of two periods that are in their range
pub spans_at : (e s t : ℕ) → (0 < s) × (s ≤ 6000) → (0 < t) × (t ≤ 6000) → spans_of e s t ≡ record { whole = lcm s t; first = first_reach (lcm s t) s; second = reach e (lcm s t) t }
unfolding spans_of
spans_at e s t p q = rw (holds_yes 1 6001 s p.0 (omega arith), holds_yes 1 6001 t q.0 (omega arith))

pub links_at : (n h p : ℕ) → 0 < p → links_in n h p ≡ n * (h / p)
unfolding links_in
links_at n h p l = rw (ne_eqb p 0 (λ e. omega arith))

-- ---- the walk has come to pattern k
-- All patterns before it fit, and the numbers carried along are the key, the pairs and the links of these. The last field bounds the sum of links.
pub record Walking (e : ℕ) (u : Tasks) (v : Patterns) (k : ℕ) (low : Key) (used made : ℕ) : Type 0 where
  pub passing : Passing (pattern_fits e u v) v.count k
  pub key : low ≡ pattern_key v k
  pub before : used ≡ pairs_before v k
  pub room : used ≤ 1024
  pub links : made ≡ total (links_of u v) k
  pub few : made ≤ used * 6000

module _ (e : ℕ) (u : Tasks) (v : Patterns) where
  pub walk_from_lem : Walking e u v 0 no_key 0 0
  walk_from_lem =
      record {
        passing = pass_from (pattern_fits e u v) v.count;
        key = sym (pattern_key_none v);
        before = sym (before_none v);
        room = omega arith;
        links = sym (total_none (links_of u v));
        few = omega arith;
      }

module _ (e : ℕ) (u : Tasks) (v : Patterns) (k : ℕ) {low : Key} {used made : ℕ} (w : Walking e u v k low used made) where
  walk_heading : heading_fits u.count low (from_task v k) (to_task v k) (pair_count v k) used ≡ false → pattern_fits e u v k ≡ false
  unfolding pattern_fits
  walk_heading h = rw (← w.key, ← w.before, h)

module _ (e h : ℕ) (u : Tasks) (v : Patterns) (asked : PatternsAsked u v h) (k : ℕ) {low : Key} {used made : ℕ} (w : Walking e u v k low used made)
    (l : k < v.count) (fit : heading_fits u.count low (from_task v k) (to_task v k) (pair_count v k) used ≡ true) {s : Spans} {x y n : ℕ}
    (from : x ≡ from_task v k) (to : y ≡ to_task v k) (spans : s ≡ spans_of e (period u x) (period u y)) (counted : n ≡ pair_count v k) where
  facts : HeadingFacts u.count low (from_task v k) (to_task v k) (pair_count v k) used
  facts = heading_facts u.count low (from_task v k) (to_task v k) (pair_count v k) used fit

  spans_are : s ≡ record { whole = common u v k; first = first_reach (common u v k) (period u (from_task v k)); second = reach e (common u v k) (period u (to_task v k)) }
  unfolding common
  spans_are =
      spans
      ∙ ap₂ (λ (a b : ℕ). spans_of e (period u a) (period u b)) from to
      ∙ spans_at e (period u (from_task v k)) (period u (to_task v k)) (asked.periods (from_task v k) facts.from_low) (asked.periods (to_task v k) facts.to_low)

  walk_pairs : (b : Bool) → all (pair_fits v.pairs used s.first s.second) n ≡ b → pattern_fits e u v k ≡ b
  unfolding pattern_fits
  walk_pairs b p = rw (← w.key, ← w.before, fit) (rw (spans_are, counted) at p)

  common_pos : 0 < common u v k
  unfolding common
  common_pos = lcm_pos (period u (from_task v k)) (period u (to_task v k)) (asked.periods (from_task v k) facts.from_low).0

  pub walk_on : all (pair_fits v.pairs used s.first s.second) n ≡ true → {m : ℕ} → m ≡ links_in (pair_count v k) h s.whole
      → Walking e u v (k + 1) (after (from_task v k) (to_task v k)) (used + n) (made + m)
  unfolding links_of repeats
  walk_on p {m} q =
      let c : ℕ = pair_count v k in
      let d : ℕ = common u v k in
      let r : m ≡ c * (h / d) = q ∙ rw spans_are (links_at c h d common_pos) in
      let f : c * (h / d) ≤ c * 6000 = mul-le-mul_left c (le_trans (div-le_self h d) asked.short) in
      record {
        passing = pass_on (pattern_fits e u v) v.count k w.passing l (walk_pairs true p);
        key = sym (pattern_key_more v k);
        before = omega (arith, w.before, before_more v k, counted);
        room = omega (arith, facts.room, counted);
        links = omega (arith, w.links, total_more (links_of u v) k, r ∙ ap (λ (x : ℕ). c * (x / d)) asked.ticks, counted);
        few = omega (arith, w.few, r, f, counted);
      }

-- ---- the tests of one pattern: its heading fails; its pairs do; neither does
module _ (e : ℕ) (u : Tasks) (h : ℕ) (ps : List ℕ) (low : Key) (used : ℕ) (p : Pattern) where
  pub one_heading : heading_fits u.count low p.from p.to p.pairs used ≡ false → None ≡ pattern_tested e u h ps low used p
  unfolding pattern_tested
  one_heading a = rw a

  module _ (a : heading_fits u.count low p.from p.to p.pairs used ≡ true) {x y n : ℕ} {s : Spans}
      (from : x ≡ p.from) (to : y ≡ p.to) (spans : s ≡ spans_of e (period u x) (period u y)) (counted : n ≡ p.pairs) where
    spans_here : s ≡ spans_of e (period u p.from) (period u p.to)
    spans_here = spans ∙ ap₂ (λ (a b : ℕ). spans_of e (period u a) (period u b)) from to

    pub one_pairs : all (pair_fits ps used s.first s.second) n ≡ false → None ≡ pattern_tested e u h ps low used p
    unfolding pattern_tested
    one_pairs b = rw (a, rw (spans_here, counted) at b)

    pub one_fits : all (pair_fits ps used s.first s.second) n ≡ true → {m : ℕ} → m ≡ links_in p.pairs h s.whole
        → Some m ≡ pattern_tested e u h ps low used p
    unfolding pattern_tested
    one_fits b q = rw (a, rw (spans_here, counted) at b, q, spans_here)

-- what they say of pattern k of the walk
module _ (e h : ℕ) (u : Tasks) (v : Patterns) (asked : PatternsAsked u v h) (k : ℕ) {low : Key} {used made : ℕ} (w : Walking e u v k low used made)
    (l : k < v.count) {p : Pattern} (at : p ≡ pattern_in v.headings k) where
  abbrev here : Pattern
  here = record { from = from_task v k; to = to_task v k; pairs = pair_count v k }

  here_is : p ≡ here
  here_is = at ∙ pattern_in_lem v.headings k (omega (arith, asked.patterns))

  abbrev spans_of_it : Spans
  spans_of_it = spans_of e (period u (from_task v k)) (period u (to_task v k))

  abbrev heading_test : Bool
  heading_test = heading_fits u.count low (from_task v k) (to_task v k) (pair_count v k) used

  abbrev pairs_test : Bool
  pairs_test = all (pair_fits v.pairs used spans_of_it.first spans_of_it.second) (pair_count v k)

  told_here : pattern_tested e u h v.pairs low used p ≡ pick (heading_test && pairs_test) (Some (links_in (pair_count v k) h spans_of_it.whole)) None
  unfolding pattern_tested
  told_here = ap (pattern_tested e u h v.pairs low used) here_is

  both_tests : {m : ℕ} → Some m ≡ pattern_tested e u h v.pairs low used p
      → (heading_test ≡ true) × (pairs_test ≡ true) × (m ≡ links_in (pair_count v k) h spans_of_it.whole)
  both_tests z =
      let w = pick_some (heading_test && pairs_test) (z ∙ told_here) in
      let b = both {a = heading_test} {b = pairs_test} w.0 in
      (b.0, b.1, w.1)

  pub walk_stop : None ≡ pattern_tested e u h v.pairs low used p → pattern_fits e u v k ≡ false
  walk_stop z = by heading_test pairs_test refl refl (pick_none (heading_test && pairs_test) _ (z ∙ told_here))
    where
      by : (a b : Bool) → heading_test ≡ a → pairs_test ≡ b → (a && b) ≡ false → pattern_fits e u v k ≡ false
      by true true f g q = clash refl q
      by true false f g q = walk_pairs e h u v asked k w l f refl refl refl refl false g
      by false b f g q = walk_heading e u v k w f

  pub walk_facts : {m : ℕ} → Some m ≡ pattern_tested e u h v.pairs low used p → HeadingFacts u.count low p.from p.to p.pairs used
  walk_facts z = rw here_is (heading_facts u.count low (from_task v k) (to_task v k) (pair_count v k) used (both_tests z).0)

  pub walk_turn : {m : ℕ} → Some m ≡ pattern_tested e u h v.pairs low used p → {n : ℕ} → n ≡ p.pairs
      → Walking e u v (k + 1) (after p.from p.to) (used + n) (made + m)
  walk_turn z c =
      let b = both_tests z in
      let d = c ∙ ap (λ (x : Pattern). x.pairs) here_is in
      rw here_is (walk_on e h u v asked k w l b.0 refl refl refl d (rw d b.1) b.2)

-- ---- what the walk answers
pub tested_no : (e : ℕ) (u : Tasks) (v : Patterns) (k : ℕ) → k < v.count → pattern_fits e u v k ≡ false → None ≡ patterns_tested e u v
unfolding patterns_tested
tested_no e u v k l f = rw (all_fails (pattern_fits e u v) v.count k l f)

pub tested_yes : (e : ℕ) (u : Tasks) (v : Patterns) (k : ℕ) {low : Key} {used made : ℕ} → Walking e u v k low used made → v.count ≤ k
    → Some made ≡ patterns_tested e u v
unfolding patterns_tested links
tested_yes e u v k w l =
    rw (
      pass_end (pattern_fits e u v) v.count k w.passing l,
      w.links ∙ ap (total (links_of u v)) (le_antisymm w.passing.within l),
    )
