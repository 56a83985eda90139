-- Laws of the ranges, of the cycle, and of what the functions over lent tables answer.
use Rattle.std.specs.Prelude.{◌≡◌, refl, Bool, true, false, ◌&&◌, List, ℕ, zero, suc, ◌+◌, ◌*◌, ◌/◌, ◌<◌, ◌≤◌, leb, ltb, get_or, Some, None}
use Rattle.std.proofs.Common.{sym, ap, ◌∙◌, lt_of_lt_of_le, mul_comm, mul-le-mul, add-one, arith, ltb-true, leb-true, lt-ltb, le-ltb, le-leb}
use Rattle.std.proofs.Math.Nat.{div-le_of_le-mul}
use Rattle.std.proofs.lemmas.Bool.{lt-leb}
use Rattle.std.proofs.lemmas.Option.{none-some, same_Some}
use Rattle.vocabulary.specs.Test.{pick}
use Rattle.vocabulary.proofs.Test.{took, both, and_false, fails, clash}
use Rattle.vocabulary.specs.Least.{all}
use Rattle.vocabulary.proofs.Least.{all_fails}
use Rattle.vocabulary.specs.Total.{total}
use Rattle.vocabulary.proofs.Total.{total_none, total_more, total_up}
use Rattle.vocabulary.specs.Multiple.{lcm, lcm_of}
use Rattle.vocabulary.proofs.Multiple.{lcm_pos, lcm_le, lcm_of_more, lcm_of_up, lcm_of_pos}
use Rattle.kinds.specs.declared.Key.{Key}
use Rattle.kinds.specs.declared.Spans.{Spans}
use Rattle.kinds.specs.Limits.{range, holds, periods, rises, after}
use Rattle.kinds.specs.Editions.{over, edition_of, rounds_of}
use Rattle.kinds.specs.Tasks.{Tasks, period, pairs_in, first_in, second_in}
use Rattle.kinds.specs.Cycle.{cycle, jobs, jobs_before, jobs_of, cycle_fits, cycle_is, multiple_of, periods_fit, ticks_of, cycle_of}
use Rattle.kinds.specs.Links.{first_reach, spans_of}
use Rattle.kinds.specs.Sound.{pair_key, pair_fits}

-- ---- a value where a test passes, and none where it does not
pub pick_some : {A : Type 0} (b : Bool) {x y : A} → Some y ≡ pick b (Some x) None → (b ≡ true) × (y ≡ x)
pick_some true {x} {y} e = (refl, same_Some y x e)
pick_some false {x} {y} e = absurd (none-some y (sym e))

pub pick_none : {A : Type 0} (b : Bool) (x : A) → None ≡ pick b (Some x) None → b ≡ false
pick_none true x e = absurd (none-some x e)
pick_none false x e = refl

-- ---- ranges
pub holds_yes : (l u v : ℕ) → l ≤ v → v < u → holds (range l u) v ≡ true
unfolding holds
holds_yes l u v p q = rw (le-leb l v p, lt-ltb v u q)

pub holds_low : (l u v : ℕ) → v < l → holds (range l u) v ≡ false
unfolding holds
holds_low l u v p = rw (lt-leb l v p)

pub holds_high : (l u v : ℕ) → u ≤ v → holds (range l u) v ≡ false
unfolding holds
holds_high l u v p = rw (le-ltb v u p) (and_false (leb l v))

pub holds_at : (l u v : ℕ) → holds (range l u) v ≡ true → (l ≤ v) × (v < u)
unfolding holds
holds_at l u v e = let w = both {a = leb l v} {b = ltb v u} e in (leb-true l v w.0, ltb-true v u w.1)

-- ---- editions
pub edition_first : (e : ℕ) → e ≡ 1 → Some (over 1) ≡ edition_of e
unfolding edition_of
edition_first e q = rw q

pub edition_second : (e : ℕ) → e ≡ 2 → Some (over 2) ≡ edition_of e
unfolding edition_of
edition_second e q = rw q

pub edition_other : (e : ℕ) → (e ≡ 1 → ⊥) → (e ≡ 2 → ⊥) → None ≡ edition_of e
unfolding edition_of
edition_other zero a b = refl
edition_other (suc zero) a b = absurd (a refl)
edition_other (suc (suc zero)) a b = absurd (b refl)
edition_other (suc (suc (suc e))) a b = refl

-- No edition reaches over more than two rounds.
pub rounds_low : (e : ℕ) → rounds_of e ≤ 2
unfolding edition_of
rounds_low zero = omega arith
rounds_low (suc zero) = omega arith
rounds_low (suc (suc zero)) = omega arith
rounds_low (suc (suc (suc e))) = omega arith

-- ---- the pairs of the first n patterns
pub pairs_none : (ns : List ℕ) → pairs_in ns 0 ≡ 0
unfolding pairs_in
pairs_none ns = total_none (λ j. get_or ns (3 * j + 2) 0)

pub pairs_more : (ns : List ℕ) (n : ℕ) → pairs_in ns (n + 1) ≡ pairs_in ns n + get_or ns (3 * n + 2) 0
unfolding pairs_in
pairs_more ns n = total_more (λ j. get_or ns (3 * j + 2) 0) n

-- One pattern has no more pairs than all have.
pub pairs_each : (ns : List ℕ) (k n : ℕ) → k < n → get_or ns (3 * k + 2) 0 ≤ pairs_in ns n
unfolding pairs_in
pairs_each ns k n l = let T : ℕ → ℕ = λ j. get_or ns (3 * j + 2) 0 in omega (arith, total_more T k, total_up T (k + 1) n (omega arith))

-- ---- the common multiple of two periods
-- Where the answer is not 0 both are periods, and it is the least common multiple; where it is 0 one of the two is no period.
pub multiple_some : (a b : ℕ) {m : ℕ} → m ≡ multiple_of a b → (m ≡ 0 → ⊥) → ((holds periods a && holds periods b) ≡ true) × (lcm a b ≡ m)
unfolding multiple_of
multiple_some a b {m} e h = took (holds periods a && holds periods b) (lcm a b) 0 m (sym e) (λ z. h (sym z))

pub multiple_none : (a b : ℕ) {m : ℕ} → m ≡ multiple_of a b → m ≡ 0 → (holds periods a && holds periods b) ≡ false
unfolding multiple_of
multiple_none a b {m} e z = fails (λ p. none (both {a = holds periods a} p).0 (rw p at e))
  where
    none : holds periods a ≡ true → m ≡ lcm a b → ⊥
    none p q = omega (arith, lcm_pos a b (holds_at 1 6001 a p).0)

pub spans_none : (e s t : ℕ) {m : ℕ} → m ≡ multiple_of s t → m ≡ 0 → record { whole = 0; first = 0; second = 0 } ≡ spans_of e s t
unfolding spans_of
spans_none e s t q z = rw (multiple_none s t q z)

-- Their multiple goes into neither more often than the other is long.
pub shares_low : (s t : ℕ) {m : ℕ} → m ≡ multiple_of s t → (m ≡ 0 → ⊥) → (m / s ≤ 6000) × (m / t ≤ 6000)
shares_low s t {m} q z =
    let w = multiple_some s t q z in
    let p = both {a = holds periods s} w.0 in
    let a = holds_at 1 6001 s p.0 in
    let b = holds_at 1 6001 t p.1 in
    let l : m ≤ s * t = omega (arith, lcm_le s t a.0 b.0, w.1) in
    let x : m / s ≤ t = div-le_of_le-mul s l in
    let y : m / t ≤ s = div-le_of_le-mul t (rw (mul_comm t s) l) in
    (omega arith, omega arith)

pub spans_some : (e s t : ℕ) {m x : ℕ} → m ≡ multiple_of s t → (m ≡ 0 → ⊥) → x ≡ rounds_of e
    → record { whole = m; first = first_reach m s; second = x * (m / t) } ≡ spans_of e s t
unfolding spans_of
spans_some e s t q z i = let w = multiple_some s t q z in rw (i, w.0, w.1)

-- So a pair's numbers stay low, in every edition.
pub reach_low : (e n : ℕ) {x : ℕ} → x ≡ rounds_of e → n ≤ 6000 → x * n ≤ 12000
reach_low e n i l = rw i (mul-le-mul (rounds_low e) l)

pub spans_low : (e s t : ℕ) {m : Spans} → m ≡ spans_of e s t → (m.first ≤ 6000) × (m.second ≤ 12000)
spans_low e s t {m} q = by (multiple_of s t) refl
  where
    by : (n : ℕ) → n ≡ multiple_of s t → (m.first ≤ 6000) × (m.second ≤ 12000)
    by zero h = rw (q ∙ sym (spans_none e s t h refl)) (omega arith, omega arith)
    by (suc n) h =
        let w = shares_low s t h (λ z. omega arith) in
        rw (q ∙ sym (spans_some e s t h (λ z. omega arith) refl)) (w.0, reach_low e (suc n / t) refl w.1)

-- ---- the cycle of n periods
-- It is found by one period after another. A period out of its range, or a multiple over the limit at any of them, settles the answer.
pub ticks_broken : (u : Tasks) (i : ℕ) → i < u.count → holds periods (period u i) ≡ false → None ≡ ticks_of u
unfolding ticks_of
ticks_broken u i l e = rw (all_fails (λ i. holds periods (period u i)) u.count i l e)

pub ticks_long : (u : Tasks) (i : ℕ) → i < u.count → 6000 < lcm_of (λ j. period u j) (i + 1) → None ≡ ticks_of u
unfolding ticks_of cycle
ticks_long u i l h =
    let T : ℕ → ℕ = λ j. period u j in
    rw (
      lt-leb (lcm_of T u.count) 6000 (lt_of_lt_of_le h (lcm_of_up T (i + 1) u.count (omega arith))),
      and_false
          (all (λ i. holds periods (period u i)) u.count),
    )

pub ticks_end : (u : Tasks) {h : ℕ} → all (λ i. holds periods (period u i)) u.count ≡ true → h ≡ lcm_of (λ j. period u j) u.count → h ≤ 6000
    → Some h ≡ ticks_of u
unfolding ticks_of cycle
ticks_end u {h} p e l = rw (p, ← e, le-leb h 6000 l)

-- One period more: where the multiple is not 0 the period is in its range.
pub ticks_more : (u : Tasks) (i : ℕ) {h m : ℕ} → h ≡ lcm_of (λ j. period u j) i → m ≡ multiple_of h (period u i) → (m ≡ 0 → ⊥)
    → (holds periods (period u i) ≡ true) × (m ≡ lcm_of (λ j. period u j) (i + 1))
ticks_more u i {h} {m} e q z =
    let w = multiple_some h (period u i) q z in
    ((both {a = holds periods h} w.0).1, sym (lcm_of_more (λ j. period u j) i ∙ rw (← e) w.1))

-- Where it is 0, though the cycle so far is within the limit, the period is out of its range.
pub ticks_stop : (h t : ℕ) {m : ℕ} → 0 < h → h ≤ 6000 → m ≡ multiple_of h t → m ≡ 0 → holds periods t ≡ false
ticks_stop h t p l q z = rw (holds_yes 1 6001 h p (omega arith)) at (multiple_none h t q z)

pub ticks_some : (u : Tasks) {h : ℕ} → Some h ≡ ticks_of u → (all (λ i. holds periods (period u i)) u.count ≡ true) × (h ≡ cycle u) × (h ≤ 6000)
unfolding ticks_of
ticks_some u {h} e =
    let w = pick_some (all (λ i. holds periods (period u i)) u.count && leb (cycle u) 6000) e in
    let b = both {a = all (λ i. holds periods (period u i)) u.count} w.0 in
    (b.0, w.1, omega (arith, leb-true (cycle u) 6000 b.1, w.1))

pub cycle_pos : (u : Tasks) → 0 < cycle u
unfolding cycle
cycle_pos u = lcm_of_pos (λ i. period u i) u.count

-- The answer `cycle_of` has four cases: too many periods, no cycle, too many jobs, and a cycle with its jobs.
pub cycle_many : (u : Tasks) → 64 < u.count → None ≡ cycle_of u
unfolding cycle_of periods_fit
cycle_many u l = rw (lt-leb u.count 64 l)

pub cycle_none : (u : Tasks) → None ≡ ticks_of u → None ≡ cycle_of u
unfolding ticks_of cycle_of periods_fit cycle_fits
cycle_none u e = by (all (λ i. holds periods (period u i)) u.count) (leb (cycle u) 6000) (pick_none (all (λ i. holds periods (period u i)) u.count && leb (cycle u) 6000) _ e)
  where
    by : (a b : Bool) → (a && b) ≡ false → None ≡ pick ((leb u.count 64 && a) && (b && leb (jobs u) 2048)) (Some (cycle_is u)) None
    by true true q = clash refl q
    by true false q = rw (and_false (leb u.count 64 && true))
    by false b q = rw (and_false (leb u.count 64))

pub cycle_over : (u : Tasks) → 2048 < jobs u → None ≡ cycle_of u
unfolding cycle_of cycle_fits
cycle_over u l = rw (lt-leb (jobs u) 2048 l, and_false (leb (cycle u) 6000), and_false (periods_fit u))

pub cycle_some : (u : Tasks) {h j : ℕ} → u.count ≤ 64 → all (λ i. holds periods (period u i)) u.count ≡ true → h ≡ cycle u → h ≤ 6000 → j ≡ jobs u
    → j ≤ 2048 → Some (record { ticks = h; jobs = j }) ≡ cycle_of u
unfolding cycle_of periods_fit cycle_fits
cycle_some u {h} {j} few p e l q m = rw (le-leb u.count 64 few, p, ← e, le-leb h 6000 l, ← q, le-leb j 2048 m)

-- The jobs are a sum over the cycle that was found.
pub jobs_is : (u : Tasks) {h : ℕ} → h ≡ cycle u → total (λ i. h / period u i) u.count ≡ jobs u
unfolding jobs jobs_before jobs_of
jobs_is u {h} e = ap (λ (x : ℕ). total (λ i. x / period u i) u.count) e

-- ---- pairs in order
pub pair_key_more : (ps : List ℕ) (start q : ℕ) → pair_key ps start (q + 1) ≡ after (first_in ps (start + q)) (second_in ps (start + q))
unfolding pair_key
pair_key_more ps start q = rw (add-one q)

pub pair_fits_lem : (ps : List ℕ) (start la lb q : ℕ) {low : Key} {a b : ℕ} {r : Bool} → low ≡ pair_key ps start q → a ≡ first_in ps (start + q)
    → b ≡ second_in ps (start + q) → r ≡ rises low la lb a b → r ≡ pair_fits ps start la lb q
unfolding pair_fits
pair_fits_lem ps start la lb q e f g h = rw (← e, ← f, ← g) h
