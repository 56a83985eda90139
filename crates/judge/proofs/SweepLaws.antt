-- One walk over the slots for rules 20 and 21 and the table of jobs.
use mathlib.Core.Path.{◌≡◌, sym, ap, ◌∙◌, subst}
use mathlib.Core.Bool.{Bool, true, false}
use mathlib.Core.List.{List}
use mathlib.Core.Logic.{inl, inr, ⊎_elim}
use Prim.Native.Nat.{ℕ, ◌+◌, ◌*◌, ◌/◌, ◌%◌, ◌<◌, ◌≤◌}
use native.Mathlib.Nat.{eq-or-lt_of_le, mul-le-mul, le_refl, div-add-mod', mod-lt}
use native.Mathlib.Omega.{arith}
use lib.Arith.{digits_lt}
use lib.ListN.{get_or}
use Rattle.vocabulary.specs.Least.{least}
use Rattle.vocabulary.proofs.Least.{least_only, some_yes, none}
use Rattle.vocabulary.proofs.Rows.{row_div, row_mod}
use Rattle.vocabulary.specs.Tally.{Fresh}
use Rattle.kinds.specs.Tasks.{Tasks}
use Rattle.kinds.specs.Cycle.{jobs}
use Rattle.kinds.specs.Plans.{Plan, slot}
use Rattle.judge.specs.declared.Verdict.TheVariants as verdict
use Rattle.judge.specs.Rules.{clashes, strays, strayed}
use Rattle.judge.specs.Judgement.{outside_at}
use Rattle.judge.specs.JobOfSlot.{Fit, outside, Walked, Visited}
use Rattle.judge.proofs.EachJobGets.{place, each_job_gets}
use Rattle.judge.proofs.Visit.{SlotWalk, walk_from_lem, walk_low, walk_along, walk_down, none_outside}
use Rattle.judge.proofs.RowLaws.{Rowing, row_from_lem, row_hit, row_on_lem, row_end}
use Rattle.judge.specs.RowMarks.{marked, Added}
use Rattle.judge.specs.Sweep.{FirstOutside, Halted, Swept}
use Rattle.std.specs.Prelude.{Some, None}

-- The walk has come to slot e, processor q of tick c, with the tasks of the row so far marked in x.
pub record Sweeping (u : Tasks) (p : Plan) (e q c x : ℕ) (rows : List (List ℕ)) : Type 0 where
  pub walking : SlotWalk u p e q c rows
  pub row : Rowing p c q x
  pub once : (t : ℕ) → t < c → clashes p t ≡ false

pub sweep_from : (u : Tasks) (p : Plan) → Fit u p → (rows : List (List ℕ)) → Fresh (jobs u) rows → Sweeping u p (0 * p.processors) 0 0 0 rows
sweep_from u p f rows z =
    let g : 0 ≡ 0 * p.processors = omega arith in
    rw (← g) record { walking = walk_from_lem u p f rows z; row = row_from_lem p 0; once = λ t l. absurd (omega arith) }

halted : (u : Tasks) (p : Plan) (e : ℕ) (rows : List (List ℕ)) → Halted u p e → Swept u p (Some e) rows
halted u p e rows h =
    record {
      good = λ z. let y : ◌≡◌ {A = ℕ} 0 1 = cc z in absurd (omega arith);
      bad = λ x z. let y : e ≡ x = cc z in rw (← y) h;
    }

module _ (u : Tasks) (p : Plan) (f : Fit u p) (e q c x : ℕ) (rows : List (List ℕ)) (w : Sweeping u p e q c x rows)
    (sweep_tick : c < p.cycle) (lq : q < p.processors) where
  pub sweep_low : e < p.cycle * p.processors
  sweep_low = walk_low u p e q c rows w.walking sweep_tick lq

  sweep_slot : get_or p.slots e 0 ≡ slot p c q
  sweep_slot = ap (λ (y : ℕ). get_or p.slots y 0) w.walking.place ∙ sym (place u p f c q sweep_tick)

  pub sweep_few : get_or p.slots e 0 ≤ 64
  sweep_few = omega (arith, f.low_slots e, f.few_tasks)

  pub sweep_twice : (rows' : List (List ℕ)) → marked x (get_or p.slots e 0) ≡ true → Swept u p (Some e) rows'
  sweep_twice rows' h =
      let r = row_hit p c q x _ w.row lq sweep_slot sweep_few h in
      halted u p e rows' (record { low = sweep_low; why = inl (some_yes (clashes p) p.cycle c sweep_tick r) })

  module _ (rows' : List (List ℕ)) (r : Bool) (v : Visited u p e r rows') where
    pub sweep_out : r ≡ true → Swept u p (Some e) rows'
    sweep_out er = halted u p e rows' (record { low = sweep_low; why = inr (record { seen = w.walking.seen; out = v.out ∙ er }) })

    module _ (x' : ℕ) (er : r ≡ false) (m : marked x (get_or p.slots e 0) ≡ false) (a : Added x (get_or p.slots e 0) x') where
      along : Rowing p c (q + 1) x'
      along = row_on_lem p c q x _ w.row lq sweep_slot sweep_few x' m a

      pub sweep_along : {d : ℕ} → d ≡ e + 1 → Sweeping u p d (q + 1) c x' rows'
      sweep_along ed = rw ed record { walking = walk_along u p e q c rows w.walking lq sweep_low rows' r v er; row = along; once = w.once }

-- At the end of a tick the next has no marks yet.
pub sweep_down : (u : Tasks) (p : Plan) (e q c x : ℕ) (rows : List (List ℕ)) → Sweeping u p e q c x rows → p.processors ≤ q
    → Sweeping u p ((c + 1) * p.processors) 0 (c + 1) 0 rows
sweep_down u p e q c x rows w z =
    let g : e ≡ (c + 1) * p.processors = omega (arith, w.walking.place, w.walking.proc, z) in
    rw (← g) record {
      walking = walk_down u p e q c rows w.walking z;
      row = row_from_lem p (c + 1);
      once = λ t h. ⊎_elim (λ g. rw g (row_end p c q x w.row z)) (λ g. w.once t g) (eq-or-lt_of_le (let g : t ≤ c = omega arith in g));
    }

pub sweep_end : (u : Tasks) (p : Plan) → Fit u p → (e c x : ℕ) (rows : List (List ℕ)) → Sweeping u p e 0 c x rows → p.cycle ≤ c → Swept u p None rows
sweep_end u p f e c x rows w l =
    let lc : p.cycle * p.processors ≤ c * p.processors = mul-le-mul {n₁ = p.cycle} {m₁ = p.processors} {n₂ = c} {m₂ = p.processors} l (le_refl p.processors) in
    let le : p.cycle * p.processors ≤ e = omega (arith, w.walking.place, lc) in
    let g : e ≡ p.cycle * p.processors = omega (arith, w.walking.seen.within) in
    let once : ((t : ℕ) → t < p.cycle → clashes p t ≡ false) = λ t h. w.once t (omega arith) in
    record {
      good = λ r. record {
        once = once;
        inside = none_outside u p (λ i h. w.walking.seen.before i (omega arith));
        gets = each_job_gets u p f once rows (subst (λ (y : ℕ). Walked u p y rows) g w.walking.walked);
      };
      bad = λ x z. let y : ◌≡◌ {A = ℕ} 0 1 = cc z in absurd (omega arith);
    }

-- ---- the first slot outside is the evidence of rule 21: its tick is the lowest, and in it its processor
module _ (u : Tasks) (p : Plan) (e : ℕ) (m : 0 < p.processors) (l : e < p.cycle * p.processors) (s : FirstOutside u p e) where
  abbrev c : ℕ
  c = e / p.processors

  abbrev q : ℕ
  q = e % p.processors

  parts : c * p.processors + q ≡ e
  parts = div-add-mod' e p.processors

  -- A slot before it, by tick and processor.
  inner : (d r : ℕ) → r < p.processors → d * p.processors + r < e → strays u p d r ≡ false
  unfolding outside
  inner d r lr h = rw (row_div d p.processors r lr, row_mod d p.processors r lr) at (s.seen.before (d * p.processors + r) h)

  pub out_processor : q ≡ least (strays u p c) p.processors
  unfolding outside
  out_processor =
      least_only (strays u p c) p.processors q
      (record { within = omega (arith, mod-lt e m); before = λ r h. inner c r (omega (arith, mod-lt e m)) (omega (arith, parts)); found = λ h. s.out })

  pub out_tick : c < p.cycle → c ≡ least (strayed u p) p.cycle
  unfolding outside strayed
  out_tick lc =
      least_only (strayed u p) p.cycle c
      (record {
        within = omega arith;
        before = λ d h. none (strays u p d) p.processors (λ r lr. inner d r lr (omega (arith, parts, digits_lt h lr)));
        found = λ h. some_yes (strays u p c) p.processors q (mod-lt e m) s.out;
      })

  pub out_found : c < p.cycle → verdict.Outside c q ≡ outside_at u p
  unfolding outside_at
  out_found lc = rw (← out_tick lc, ← out_processor)
