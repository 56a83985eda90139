-- What a job gets is determined: `Gets` is so of its ticks, of the first and of the last of them, and of no other numbers; and cycles later it is the same.
use Rattle.std.specs.Prelude.{◌≡◌, refl, false, ◌⊎◌, ℕ, ◌+◌, ◌-◌, ◌*◌, ◌/◌, ◌%◌, ◌<◌, ◌≤◌}
use Rattle.std.proofs.Common.{sym, ◌∙◌, subst, inl, inr, ⊎_elim, eq-zero-or-pos}
use Rattle.std.proofs.Math.Path.{ap}
use Rattle.std.proofs.Math.Bool.{true}
use Rattle.std.specs.Int.{◌∣◌}
use Rattle.std.proofs.Math.Nat.{mod-add-div'}
use native.Mathlib.Omega.{arith}
use Rattle.vocabulary.proofs.Test.{clash, fails, decide, lt_or_le}
use Rattle.vocabulary.specs.Least.{least, some, greatest}
use Rattle.vocabulary.proofs.Least.{least_is, some_yes, some_at, some_not, greatest_is, greatest_none}
use Rattle.vocabulary.specs.Count.{count}
use Rattle.vocabulary.proofs.Count.{count_same, count_none, count_pos}
use Rattle.kinds.specs.Tasks.{Tasks, period, offset, deadline}
use Rattle.kinds.specs.Cycle.{cycle, jobs_of}
use Rattle.kinds.specs.Jobs.{release, in_window}
use Rattle.kinds.specs.Plans.{Plan, shown, runs, ticks, runs_past, first_tick, last_tick}
use Rattle.kinds.specs.Valid.{TickOf}
use Rattle.kinds.specs.JobTicks.{Gets}
use Rattle.laws.proofs.Repeat.{shown_again, runs_shown, release_later, ticks_shift}
use Rattle.laws.proofs.Window.{tick_at_lem, tick_is}
use Rattle.laws.proofs.Windows.{window_yes, window_facts}

module _ (u : Tasks) (p : Plan) (i k : ℕ) where
  -- ==== Nothing else is what a job gets: two such triples are equal.
  pub gets_only : {c a b c' a' b' : ℕ} → Gets u p i k c a b → Gets u p i k c' a' b' → (c ≡ c') × (a ≡ a') × (b ≡ b')
  gets_only {c} {a} {b} {c'} {a'} {b'} g g' = go (eq-zero-or-pos c)
    where
      e : c ≡ c'
      e = g.number ∙ sym g'.number

      go : (c ≡ 0) ⊎ (0 < c) → (c ≡ c') × (a ≡ a') × (b ≡ b')
      go (inl z) =
          let w = g.none z in
          let w' = g'.none (omega (arith, e)) in
          (e, w.0 ∙ sym w'.0, w.1 ∙ sym w'.1)
      go (inr l) =
          let l' : 0 < c' = omega (arith, e) in (
            e,
            omega (arith, (g.bounds a' (g'.first l')).0, (g'.bounds a (g.first l)).0),
            omega (arith, (g.bounds b' (g'.last l')).1, (g'.bounds b (g.last l)).1),
          )

  -- ---- ticks by how far they are past the release
  counted : ticks u p i k ≡ count (runs_past u p i k) 0 (deadline u i)
  unfolding ticks
  counted =
      count_same (runs u p i) (runs_past u p i k) (release u i k) 0 (deadline u i)
      (λ x l. ap (λ (y : ℕ). runs u p i (release u i k + y)) (let z : x ≡ 0 + x = omega arith in z))

  pub to_tick : (x : ℕ) → x < deadline u i → runs u p i (release u i k + x) ≡ true → TickOf u p i k (release u i k + x)
  to_tick x l e = tick_at_lem u p i k (release u i k + x) (omega arith) (omega arith) (runs_shown u p i (release u i k + x) e).1

  past : (x : ℕ) → TickOf u p i k x → (release u i k ≤ x) × (x - release u i k < deadline u i) × (runs_past u p i k (x - release u i k) ≡ true)
  past x t =
      let w = tick_is u p i k x t in
      (w.0, omega (arith, w.0, w.1), ap (runs u p i) (let z : release u i k + (x - release u i k) ≡ x = omega (arith, w.0) in z) ∙ t.ran)

  busy : 0 < ticks u p i k → some (runs_past u p i k) (deadline u i) ≡ true
  busy l =
      ⊎_elim (λ e. e)
      (λ e.
      let n = count_none (runs_past u p i k) 0 (deadline u i) (λ x h. some_not (runs_past u p i k) (deadline u i) e (0 + x) (omega arith)) in
      absurd (omega (arith, counted, n)))
      (decide (some (runs_past u p i k) (deadline u i)))

  idle : ticks u p i k ≡ 0 → some (runs_past u p i k) (deadline u i) ≡ false
  idle z =
      fails (λ e.
      let w = some_at (runs_past u p i k) (deadline u i) e in
      omega (arith, counted, count_pos (runs_past u p i k) (deadline u i) (least (runs_past u p i k) (deadline u i)) w.0 w.1))

  first_some : some (runs_past u p i k) (deadline u i) ≡ true → first_tick u p i k ≡ release u i k + least (runs_past u p i k) (deadline u i)
  unfolding first_tick
  first_some e = rw e

  least_low : (y : ℕ) → runs_past u p i k y ≡ true → least (runs_past u p i k) (deadline u i) ≤ y
  least_low y e =
      ⊎_elim (λ l. clash e ((least_is (runs_past u p i k) (deadline u i)).before y l)) (λ l. l) (lt_or_le y (least (runs_past u p i k) (deadline u i)))

  first_none : ticks u p i k ≡ 0 → first_tick u p i k ≡ release u i k
  unfolding first_tick
  first_none z = rw (idle z) (let g : release u i k + 0 ≡ release u i k = omega arith in g)

  -- ==== A job gets its ticks, and their least and greatest are the first and the last of them,
  pub gets_is : Gets u p i k (ticks u p i k) (first_tick u p i k) (last_tick u p i k)
  unfolding last_tick
  gets_is =
      record {
        number = refl;
        bounds =
            λ x t.
            let w = past x t in
            let e : some (runs_past u p i k) (deadline u i) ≡ true = some_yes (runs_past u p i k) (deadline u i) (x - release u i k) w.1 w.2 in
            let g = greatest_is (runs_past u p i k) (deadline u i) (x - release u i k) w.1 w.2 in
            (omega (arith, first_some e, least_low (x - release u i k) w.2, w.0), omega (arith, g.2, w.0));
        first =
            λ l.
            let e = busy l in
            let w = some_at (runs_past u p i k) (deadline u i) e in
            rw (first_some e) (to_tick (least (runs_past u p i k) (deadline u i)) w.0 w.1);
        last =
            λ l.
            let w = some_at (runs_past u p i k) (deadline u i) (busy l) in
            let g = greatest_is (runs_past u p i k) (deadline u i) (least (runs_past u p i k) (deadline u i)) w.0 w.1 in
            to_tick (greatest (runs_past u p i k) (deadline u i)) g.0 g.1;
        none =
            λ z.
            let n = greatest_none (runs_past u p i k) (deadline u i) (some_not (runs_past u p i k) (deadline u i) (idle z)) in
            (first_none z, omega (arith, n));
      }

  -- ==== so that whatever a job gets, its three numbers are these.
  pub gets_ticks : {c a b : ℕ} → Gets u p i k c a b → (c ≡ ticks u p i k) × (a ≡ first_tick u p i k) × (b ≡ last_tick u p i k)
  gets_ticks g = gets_only g gets_is

  -- A job without ticks, from its release.
  pub gets_none : ticks u p i k ≡ 0 → Gets u p i k 0 (release u i k) (release u i k)
  gets_none z =
      let w = gets_is.none z in
      record {
        number = sym z;
        bounds = λ t h. let b = gets_is.bounds t h in (omega (arith, w.0, b.0), omega (arith, w.1, b.1));
        first = λ l. absurd (omega arith);
        last = λ l. absurd (omega arith);
        none = λ e. (refl, refl);
      }

  -- The first and the last lie in the job's window, also where they are its release.
  pub gets_within : {c a b : ℕ} → 0 < deadline u i → Gets u p i k c a b → (in_window u i k a ≡ true) × (in_window u i k b ≡ true)
  gets_within {c} {a} {b} d g = go (eq-zero-or-pos c)
    where
      at_release : {x : ℕ} → x ≡ release u i k → in_window u i k x ≡ true
      at_release e = ap (in_window u i k) (let z : _ ≡ release u i k + 0 = omega (arith, e) in z) ∙ window_yes u i k 0 d

      go : (c ≡ 0) ⊎ (0 < c) → (in_window u i k a ≡ true) × (in_window u i k b ≡ true)
      go (inl z) = let w = g.none z in (at_release w.0, at_release w.1)
      go (inr l) = ((g.first l).within, (g.last l).within)

  -- So they are below 12,000 where the job's period ends within 6,000 ticks from the first release on, as that of every job of a cycle does.
  pub gets_low : {c a b : ℕ} → 0 < deadline u i → deadline u i ≤ period u i → offset u i < period u i → k * period u i + period u i ≤ 6000
      → Gets u p i k c a b → (a < 12000) × (b < 12000)
  unfolding release
  gets_low {c} {a} {b} some_deadline deadline_low offset_low room g =
      let w = gets_within some_deadline g in
      (omega (arith, (window_facts u i k a w.0).1), omega (arith, (window_facts u i k b w.1).1))

-- ---- n cycles later
module _ (u : Tasks) (p : Plan) (i k n : ℕ) (h : p.cycle ≡ cycle u) (d : period u i ∣ cycle u) where
  put_off : release u i (k + n * jobs_of u i) ≡ release u i k + n * p.cycle
  put_off = rw h (release_later u i k n d)

  tick_on_lem : (x : ℕ) → TickOf u p i k x → TickOf u p i (k + n * jobs_of u i) (x + n * p.cycle)
  tick_on_lem x t =
      let w = tick_is u p i k x t in
      tick_at_lem u p i (k + n * jobs_of u i) (x + n * p.cycle) (omega (arith, put_off, w.0)) (omega (arith, put_off, w.1)) (shown_again p i x n ∙ w.2)

  tick_back : (x : ℕ) → TickOf u p i (k + n * jobs_of u i) x → (n * p.cycle ≤ x) × TickOf u p i k (x - n * p.cycle)
  tick_back x t =
      let w = tick_is u p i (k + n * jobs_of u i) x t in
      let c : ℕ = n * p.cycle in
      let l : c ≤ x = omega (arith, put_off, w.0) in (
        l,
        tick_at_lem u p i k (x - c) (omega (arith, put_off, w.0)) (omega (arith, put_off, w.0, w.1))
            (sym (shown_again p i (x - c) n) ∙ ap (shown p i) (let z : x - c + c ≡ x = omega arith in z) ∙ w.2),
      )

  -- ==== A job that many cycles later gets as many ticks, the first and the last of them as much later.
  pub gets_later : {c a b : ℕ} → Gets u p i k c a b → Gets u p i (k + n * jobs_of u i) c (a + n * p.cycle) (b + n * p.cycle)
  gets_later {c} {a} {b} g =
      record {
        number = g.number ∙ sym (ticks_shift u p i (k + n * jobs_of u i) k n put_off);
        bounds =
            λ x t.
            let w = tick_back x t in
            let q = g.bounds (x - n * p.cycle) w.1 in
            (omega (arith, w.0, q.0), omega (arith, w.0, q.1));
        first = λ l. tick_on_lem a (g.first l);
        last = λ l. tick_on_lem b (g.last l);
        none = λ z. let w = g.none z in (omega (arith, put_off, w.0), omega (arith, put_off, w.1));
      }

-- ==== So any job gets what the job of the first cycle gets that it repeats, whole cycles later.
pub gets_again : (u : Tasks) (p : Plan) (i k : ℕ) → p.cycle ≡ cycle u → period u i ∣ cycle u → {c a b : ℕ} → Gets u p i (k % jobs_of u i) c a b
    → Gets u p i k c (a + k / jobs_of u i * p.cycle) (b + k / jobs_of u i * p.cycle)
gets_again u p i k h d {c} {a} {b} g =
    subst (λ (j : ℕ). Gets u p i j c (a + k / jobs_of u i * p.cycle) (b + k / jobs_of u i * p.cycle)) (mod-add-div' k (jobs_of u i))
    (gets_later u p i (k % jobs_of u i) (k / jobs_of u i) h d g)
