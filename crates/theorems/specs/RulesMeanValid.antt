-- A plan that keeps every rule in one cycle is valid for ever, and the other way round.
use Rattle.std.specs.Prelude.{◌≡◌, refl, true, false, List, ◌⊎◌, get_or}
use Rattle.std.proofs.Common.{sym, ap, ◌∙◌, inl, inr, mod-lt, mod-eq_of_lt, arith}
use Rattle.std.proofs.Math.Logic.{⊎_elim}
use Prim.Native.Nat.{ℕ, ◌+◌, ◌-◌, ◌*◌, ◌/◌, ◌%◌, ◌<◌, ◌≤◌}
use Rattle.std.proofs.Math.Nat.{le_of_dvd, div-add-mod', add-mod_right}
use Rattle.std.proofs.Math.Arith.{digits_lt}
use Rattle.std.proofs.Math.ListN.{length}
use borrow.Author.Tests.{eqb-true, eq-eqb, le-leb}
use Rattle.vocabulary.proofs.Test.{fails, lt_or_le, eq_or_ne}
use Rattle.vocabulary.specs.Least.{least}
use Rattle.vocabulary.proofs.Least.{some_yes, some_at}
use Rattle.kinds.specs.Tasks.{Tasks, Patterns, Set, period, running, offset, deadline, from_task, to_task, pair_count}
use Rattle.kinds.specs.Cycle.{cycle}
use Rattle.kinds.specs.Jobs.{release, in_window}
use Rattle.kinds.specs.Links.{link_from, link_to, repeats}
use Rattle.kinds.specs.Plans.{Plan, plan_of, slot, shows, shown, awake, runs, ticks}
use Rattle.kinds.specs.Valid.{InSomeWindow, Inside, Alone, Exact, Kept, Valid}
use Rattle.kinds.proofs.SoundFacts.{Sound, some_repeats}
use Rattle.judge.specs.Rules.{breaks}
use Rattle.laws.proofs.Repeat.{slot_mod, slot_next, runs_awake, runs_shown, every_job, past_release}
use Rattle.laws.proofs.Windows.{window_yes, window_facts}
use Rattle.theorems.specs.Names.{Doubled, Misplaced, Keeps11, Keeps12, Keeps20, Keeps21, Keeps22, Keeps23}
use Rattle.judge.proofs.Broken.{kept_iff}
use Rattle.theorems.specs.LinkLaws.{breaks_again}
use Rattle.theorems.specs.RuleLaws.{link_search}

-- a slot shows a task where it names it
shows_slot : (p : Plan) (i t q : ℕ) → shows p i t q ≡ true → slot p t q ≡ i + 1
unfolding shows
shows_slot p i t q e = eqb-true (slot p t q) (i + 1) e

slot_shows : (p : Plan) (i t q : ℕ) → slot p t q ≡ i + 1 → shows p i t q ≡ true
unfolding shows
slot_shows p i t q e = eq-eqb (slot p t q) (i + 1) e

shown_yes : (p : Plan) (i t q : ℕ) → q < p.processors → slot p t q ≡ i + 1 → shown p i t ≡ true
unfolding shown
shown_yes p i t q l e = some_yes (shows p i t) p.processors q l (slot_shows p i t q e)

-- the processor that shows a task
shown_at_lem : (p : Plan) (i t : ℕ) → shown p i t ≡ true
    → (least (shows p i t) p.processors < p.processors) × (slot p t (least (shows p i t) p.processors) ≡ i + 1)
unfolding shown
shown_at_lem p i t e = let w = some_at (shows p i t) p.processors e in (w.0, shows_slot p i t (least (shows p i t) p.processors) w.1)

-- the rule of windows, for a slot that shows task i
misplaced_at : (u : Tasks) (p : Plan) (c q i : ℕ) → slot p c q ≡ i + 1 → deadline u i ≤ (c + p.cycle - offset u i) % period u i → Misplaced u p c q
misplaced_at u p c q i e l =
    let g : slot p c q - 1 ≡ i = omega arith in
    record { busy = λ z. omega arith; late = rw g l }

module _ (s : Set) (f : Sound s) (slots : List ℕ) where
  abbrev u : Tasks
  u = s.tasks

  abbrev v : Patterns
  v = s.patterns

  abbrev p : Plan
  p = plan_of s slots

  -- ---- the cycle keeps the rules: valid for ever
  alone : Keeps20 s slots → Alone u p
  alone k =
      record {
        each = λ i t q r li a lq lr eq er.
            k.none (t % cycle u) q r (mod-lt t f.some_cycle) (omega arith) lr
            (record {
              order = lq;
              busy = λ z. let g : 0 ≡ i + 1 = sym z ∙ slot_mod p t q ∙ shows_slot p i t q eq in omega arith;
              same = slot_mod p t r ∙ shows_slot p i t r er ∙ sym (shows_slot p i t q eq) ∙ sym (slot_mod p t q);
            });
      }

  -- a time t that is k periods and d ticks past the offset, where processor q shows task i
  window : Keeps21 s slots → (i t q k d : ℕ) → i < u.count → q < s.processors → slot p t q ≡ i + 1 → d < period u i → release u i k + d ≡ t
      → InSomeWindow u i t
  window r i t q k d li lq e ld g = go (lt_or_le d (deadline u i))
    where
      at_t : (t % cycle u + cycle u - offset u i) % period u i ≡ d
      at_t = rw g at (past_release s f i k d li ld)

      go : (d < deadline u i) ⊎ (deadline u i ≤ d) → InSomeWindow u i t
      go (inl h) = record { job = k; within = ap (in_window u i k) (sym g) ∙ window_yes u i k d h }
      go (inr h) =
          absurd (r.none (t % cycle u) q (mod-lt t f.some_cycle) lq
          (misplaced_at u p (t % cycle u) q i (slot_mod p t q ∙ e) (omega (arith, at_t))))

  -- how far a time is past the release of the job that it belongs to
  last_release : (i t : ℕ) → offset u i ≤ t → release u i ((t - offset u i) / period u i) + (t - offset u i) % period u i ≡ t
  unfolding release
  last_release i t l = omega (arith, div-add-mod' (t - offset u i) (period u i))

  inside : Keeps21 s slots → Inside u p
  inside k =
      record {
        each = λ i t li e.
            let a = runs_shown u p i t e in
            let w = shown_at_lem p i t a.1 in
            let x : ℕ = t - offset u i in
            window k i t (least (shows p i t) s.processors) (x / period u i) (x % period u i) li w.0 w.1 (mod-lt x (f.some_period i li))
            (last_release i t a.0);
      }

  exact : Keeps22 s slots → Exact u p
  exact k =
      record {
        each = λ i j li.
            every_job s f p i (running u i) refl li (λ x lx. ⊎_elim (λ e. e) (λ d. absurd (k.none i x li lx d)) (eq_or_ne (ticks u p i x) (running u i))) j;
      }

  whole : Keeps23 s slots → (k q n : ℕ) → k < v.count → q < pair_count v k → breaks u v p k q n ≡ false
  whole r k q n lk lq =
      let x : ℕ = n % repeats u v k in
      breaks_again s f slots k q n lk
      ∙ fails (λ e. r.none k q x lk lq (mod-lt n (some_repeats s f k lk)) ((link_search u v p).says k q x e))

  kept : Keeps23 s slots → Kept u v p
  unfolding breaks
  kept r = record { each = λ k q n lk lq. (kept_iff u p (from_task v k) (link_from u v k q n) (to_task v k) (link_to u v k q n)).0 (whole r k q n lk lq) }

  pub clean_valid : Keeps20 s slots → Keeps21 s slots → Keeps22 s slots → Keeps23 s slots → Valid s p
  clean_valid k₂₀ k₂₁ k₂₂ k₂₃ = record { inside = inside k₂₁; alone = alone k₂₀; exact = exact k₂₂; kept = kept k₂₃ }

  -- ---- valid for ever: the cycle keeps the rules. A slot tick's own time is in the second cycle, where all tasks are awake
  late : (i c : ℕ) → i < u.count → offset u i ≤ c + cycle u
  late i c li = omega (arith, le_of_dvd f.some_cycle (f.divides i li), f.offset_low i li)

  awake_late : (i c : ℕ) → i < u.count → awake u i (c + cycle u) ≡ true
  unfolding awake
  awake_late i c li = le-leb (offset u i) (c + cycle u) (late i c li)

  -- the task that a slot shows
  named : Keeps11 s slots → Keeps12 s slots → (c q : ℕ) → q < s.processors → (slot p c q ≡ 0 → ⊥) → slot p c q - 1 < u.count
  unfolding slot
  named g k c q lq z =
      let e : ℕ = c % cycle u * s.processors + q in
      let l : e < cycle u * s.processors = digits_lt (mod-lt c f.some_cycle) lq in
      let n : e < length slots = omega (arith, g.long) in
      ⊎_elim (λ h. absurd (k.none e n h)) (λ h. omega arith) (lt_or_le u.count (get_or slots e 0))

  next_slot : (c q : ℕ) → (slot p c q ≡ 0 → ⊥) → slot p (c + cycle u) q ≡ slot p c q - 1 + 1
  next_slot c q z = slot_next p c q ∙ (let g : slot p c q ≡ slot p c q - 1 + 1 = omega arith in g)

  single : Keeps11 s slots → Keeps12 s slots → Alone u p → (t q r : ℕ) → t < cycle u → q < s.processors → r < s.processors → Doubled p t q r → ⊥
  single g k a t q r lt lq lr d =
      let i : ℕ = slot p t q - 1 in
      let li : i < u.count = named g k t q lq d.busy in
      let e : slot p (t + cycle u) q ≡ i + 1 = next_slot t q d.busy in
      a.each i (t + cycle u) q r li (awake_late i t li) d.order lr (slot_shows p i (t + cycle u) q e)
      (slot_shows p i (t + cycle u) r (slot_next p t r ∙ d.same ∙ sym (slot_next p t q) ∙ e))

  -- a slot tick whose time in the second cycle lies in a window of task i
  near : (i c : ℕ) → i < u.count → c < cycle u → InSomeWindow u i (c + cycle u) → (c + cycle u - offset u i) % period u i < deadline u i
  near i c li lc w =
      let k : ℕ = w.job in
      let b = window_facts u i k (c + cycle u) w.within in
      let d : ℕ = c + cycle u - release u i k in
      let ld : d < period u i = omega (arith, f.deadline_low i li) in
      let g : release u i k + d ≡ c + cycle u = omega arith in
      let e : ((c + cycle u) % cycle u + cycle u - offset u i) % period u i ≡ d = rw g at (past_release s f i k d li ld) in
      let h : (c + cycle u - offset u i) % period u i ≡ d = rw (add-mod_right c (cycle u), mod-eq_of_lt lc) at e in
      omega arith

  placed : Keeps11 s slots → Keeps12 s slots → Inside u p → (c q : ℕ) → c < cycle u → q < s.processors → Misplaced u p c q → ⊥
  placed g k a c q lc lq d =
      let i : ℕ = slot p c q - 1 in
      let li : i < u.count = named g k c q lq d.busy in
      let r : runs u p i (c + cycle u) ≡ true = runs_awake u p i (c + cycle u) (late i c li) ∙ shown_yes p i (c + cycle u) q lq (next_slot c q d.busy) in
      omega (arith, near i c li lc (a.each i (c + cycle u) li r), d.late)

  pub keeps_20 : Keeps11 s slots → Keeps12 s slots → Valid s p → Keeps20 s slots
  keeps_20 g k a = record { none = single g k a.alone }

  pub keeps_21 : Keeps11 s slots → Keeps12 s slots → Valid s p → Keeps21 s slots
  keeps_21 g k a = record { none = placed g k a.inside }

  pub keeps_22 : Valid s p → Keeps22 s slots
  keeps_22 a = record { none = λ i j li lj d. d (a.exact.each i j li) }

  pub keeps_23 : Valid s p → Keeps23 s slots
  keeps_23 a = record { none = λ i q n li lq ln d. d (a.kept.each i q n li lq) }
