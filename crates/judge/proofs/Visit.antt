-- A turn of the walk over the slots, by its three ways out, and the walk.
use mathlib.Core.Path.{◌≡◌, refl, sym, ap, ◌∙◌, subst}
use mathlib.Core.Bool.{Bool, true, false}
use mathlib.Core.List.{List}
use Prim.Native.Nat.{ℕ, ◌+◌, ◌-◌, ◌*◌, ◌/◌, ◌%◌, ◌<◌, ◌≤◌}
use native.Mathlib.Nat.{le_of_dvd, mul-le-mul}
use native.Mathlib.Omega.{arith}
use lib.Arith.{digits_lt}
use lib.Dec.{leb, ltb}
use lib.ListN.{get_or, length}
use borrow.Author.Tests.{le-leb, lt-leb}
use Rattle.std.specs.Prelude.{Some, None}
use Rattle.vocabulary.specs.Test.{pick}
use Rattle.vocabulary.proofs.Test.{clash}
use Rattle.vocabulary.specs.Least.{Seeking}
use Rattle.vocabulary.proofs.Least.{none, on, seek}
use Rattle.vocabulary.proofs.Rows.{row_div, row_mod}
use Rattle.vocabulary.specs.Tally.{count_at, Noted, Fresh}
use Rattle.vocabulary.proofs.Tally.{tally_from, tally_skip, tally_note, tally_room}
use Rattle.kinds.specs.declared.Task.{Task}
use Rattle.kinds.specs.Tasks.{Tasks, task_at, task_in, task_in_lem}
use Rattle.kinds.specs.Cycle.{jobs}
use Rattle.kinds.specs.Plans.{Plan}
use Rattle.laws.specs.Window.{time_of}
use Rattle.laws.proofs.Order.{before_up}
use Rattle.judge.specs.Rules.{strays, strayed}
use Rattle.judge.specs.JobOfSlot.{Fit, FirstJobs, job_key, job_at, key, time, outside, Fine, Walked, Visited}
use Rattle.judge.proofs.EachJobGets.{fine, key_task, tick_low, outside_is, idle_is, job_low, number_fits}

-- The job of a slot tick by its number, which is 2048 for none.
module _ (h : ℕ) (t : Task) (b c : ℕ) where
  pub job_some : {k : ℕ} → Some k ≡ job_at h t b c → (k ≡ job_key h t b c) × (k ≡ b + (time_of h t.offset c - t.offset) / t.period)
  unfolding job_at job_key
  job_some {k} e = by (ltb ((time_of h t.offset c - t.offset) % t.period) t.deadline) e
    where
      n : ℕ
      n = b + (time_of h t.offset c - t.offset) / t.period

      by : (x : Bool) → Some k ≡ pick x (Some n) None → (k ≡ pick x n 2048) × (k ≡ n)
      by true q = let z : k ≡ n = cc q in (z, z)
      by false q = let z : ◌≡◌ {A = ℕ} 0 1 = cc q in absurd (omega arith)

  pub job_none : None ≡ job_at h t b c → 2048 ≡ job_key h t b c
  unfolding job_at job_key
  job_none e = by (ltb ((time_of h t.offset c - t.offset) % t.period) t.deadline) e
    where
      n : ℕ
      n = b + (time_of h t.offset c - t.offset) / t.period

      by : (x : Bool) → None ≡ pick x (Some n) None → 2048 ≡ pick x n 2048
      by true q = let z : ◌≡◌ {A = ℕ} 0 1 = cc q in absurd (omega arith)
      by false q = refl

module _ (u : Tasks) (p : Plan) (bs : List ℕ) (f : Fit u p) (g : FirstJobs u bs) (e v : ℕ) (le : e < p.cycle * p.processors) (ev : v ≡ get_or p.slots e 0) where
  pub visit_idle : (rows : List (List ℕ)) → Walked u p e rows → v ≡ 0 → Visited u p e false rows
  visit_idle rows w z =
      let i = idle_is u p f e le (sym ev ∙ z) in
      record { out = i.0; next = λ r. record { noted = tally_skip (key u p) (time u p) (Fine u p) (jobs u) e rows w.noted i.1 } }

  pub visit_tick : (c : ℕ) → c ≡ e / p.processors → c < p.cycle
  visit_tick c ec = rw ec (tick_low u p f e le)

  module _ (z : v ≡ 0 → ⊥) where
    pub slot_low : v - 1 < u.count
    slot_low = omega (arith, f.low_slots e, z)

    module _ {t : Task} (tt : t ≡ task_in u.attributes (v - 1)) where
      et : t ≡ task_at u.attributes (v - 1)
      et = tt ∙ task_in_lem u.attributes (v - 1) (omega (arith, slot_low, f.few_tasks))

      pub task_fit : (0 < t.period) × (t.offset ≤ p.cycle) × (get_or bs (v - 1) 0 ≤ 2048)
      unfolding jobs
      task_fit =
          rw et (
            f.some_period (v - 1) slot_low,
            omega (arith, f.offset_low (v - 1) slot_low, le_of_dvd f.some_cycle (f.divides (v - 1) slot_low)),
            omega (arith, g.each (v - 1) slot_low, before_up u (v - 1) u.count (omega (arith, slot_low)), f.few_jobs),
          )

      pub visit_low : (c : ℕ) → c ≡ e / p.processors → {k : ℕ} → Some k ≡ job_at p.cycle t (get_or bs (v - 1) 0) c → k < jobs u
      visit_low c ec {k} ek =
          let lc : c < p.cycle = visit_tick c ec in
          let z = rw et at (job_some p.cycle t (get_or bs (v - 1) 0) c ek).1 in
          omega (arith, z, g.each (v - 1) slot_low, number_fits u p f (v - 1) _ slot_low (job_low u p f (v - 1) c slot_low lc))

      module _ (c k j : ℕ) (ec : c ≡ e / p.processors) (ek : k ≡ job_key p.cycle t (get_or bs (v - 1) 0) c) (ej : j ≡ k) where
        key_at : j ≡ key u p e
        unfolding key
        key_at =
            ej
            ∙ ek
            ∙ ap (λ (x : Task). job_key p.cycle x (get_or bs (v - 1) 0) c) et
            ∙ ap (λ (b : ℕ). job_key p.cycle (task_at u.attributes (v - 1)) b c) (g.each (v - 1) slot_low)
            ∙ key_task u p f v c z
            ∙ rw (ec, ev)

        is_out : outside u p e ≡ leb (jobs u) j
        is_out = outside_is u p f e j le (λ q. z (ev ∙ q)) key_at

        module _ (rows : List (List ℕ)) (w : Walked u p e rows) where
          pub visit_out : (rows' : List (List ℕ)) → j ≡ 2048 → Visited u p e true rows'
          visit_out rows' l = record { out = is_out ∙ le-leb (jobs u) j (omega (arith, f.few_jobs)); next = λ r. clash refl r }

          pub visit_note : (x : ℕ) (rows' : List (List ℕ)) → j < length rows → x ≡ time_of p.cycle t.offset c → Noted j x rows rows'
              → Visited u p e false rows'
          unfolding time
          visit_note x rows' l ex n =
              let lj : j < jobs u = omega (arith, w.noted.long) in
              let q : x ≡ time u p e = ex ∙ rw (et, ec, ev) in
              let a : Fine u p j (time u p e) = subst (λ (y : ℕ). Fine u p y (time u p e)) (sym key_at) (fine u p f e le) in
              let h : Fine u p j x = subst (λ (y : ℕ). Fine u p j y) (sym q) a in
              record {
                out = is_out ∙ lt-leb (jobs u) j lj;
                next = λ r. record { noted = tally_note (key u p) (time u p) (Fine u p) (jobs u) e j x rows rows' w.noted key_at q lj h n };
              }

pub few_slots : (u : Tasks) (p : Plan) → Fit u p → p.cycle * p.processors ≤ 48000
few_slots u p f = mul-le-mul {n₁ = p.cycle} {m₁ = p.processors} {n₂ = 6000} {m₂ = 8} f.low_cycle f.few_processors

pub walk_room : (u : Tasks) (p : Plan) → Fit u p → (e : ℕ) (rows : List (List ℕ)) → Walked u p e rows → e < p.cycle * p.processors
    → (j : ℕ) → j < length rows → count_at rows j ≤ 48000
walk_room u p f e rows w l j lj =
    omega (arith, few_slots u p f, tally_room (key u p) (time u p) (Fine u p) (jobs u) e rows w.noted j (omega (arith, w.noted.long)))

-- ---- the walk
-- It has come to slot e, processor q of tick c.
pub record SlotWalk (u : Tasks) (p : Plan) (e q c : ℕ) (rows : List (List ℕ)) : Type 0 where
  pub seen : Seeking (outside u p) (p.cycle * p.processors) e
  pub walked : Walked u p e rows
  pub place : e ≡ c * p.processors + q
  pub proc : q ≤ p.processors

pub walk_from_lem : (u : Tasks) (p : Plan) → Fit u p → (rows : List (List ℕ)) → Fresh (jobs u) rows → SlotWalk u p 0 0 0 rows
walk_from_lem u p f rows z =
    record {
      seen = seek (outside u p) (p.cycle * p.processors);
      walked = record { noted = tally_from (key u p) (time u p) (Fine u p) (jobs u) rows z };
      place = omega arith;
      proc = omega arith;
    }

module _ (u : Tasks) (p : Plan) (e q c : ℕ) (rows : List (List ℕ)) (w : SlotWalk u p e q c rows) where
  pub walk_tick : q < p.processors → c ≡ e / p.processors
  walk_tick l = sym (row_div c p.processors q l) ∙ ap (λ (x : ℕ). x / p.processors) (sym w.place)

  pub walk_low : c < p.cycle → q < p.processors → e < p.cycle * p.processors
  walk_low l k = omega (arith, w.place, digits_lt l k)

  pub walk_along : q < p.processors → e < p.cycle * p.processors → (rows' : List (List ℕ)) (r : Bool) → Visited u p e r rows' → r ≡ false
      → SlotWalk u p (e + 1) (q + 1) c rows'
  walk_along k l rows' r v er = record { seen = on _ _ e w.seen l (v.out ∙ er); walked = v.next er; place = omega (arith, w.place); proc = omega arith }

  -- At the end of a tick it goes on with the next.
  pub walk_down : p.processors ≤ q → SlotWalk u p e 0 (c + 1) rows
  walk_down z = record { seen = w.seen; walked = w.walked; place = omega (arith, w.place, w.proc); proc = omega arith }

-- Where no slot lies outside, no tick has one that does.
pub none_outside : (u : Tasks) (p : Plan) → ((e : ℕ) → e < p.cycle * p.processors → outside u p e ≡ false)
    → (c : ℕ) → c < p.cycle → strayed u p c ≡ false
unfolding strayed outside
none_outside u p h c lc =
    none (strays u p c) p.processors
    (λ q lq. rw (row_div c p.processors q lq, row_mod c p.processors q lq) at (h (c * p.processors + q) (digits_lt lc lq)))
