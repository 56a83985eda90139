-- Two sets that agree on what counts get the same verdict for every plan, and starting answers the same.
use Rattle.std.specs.Prelude.{◌≡◌, Bool, List, length, get_or}
use Rattle.std.proofs.Math.Path.{refl, ap, ap₂}
use Rattle.std.proofs.Common.{◌∙◌, ⊎_elim, arith}
use Rattle.std.proofs.Math.Bool.{true, false, ◌&&◌, not}
use Prim.Native.Nat.{ℕ, ◌+◌, ◌-◌, ◌*◌, ◌%◌, ◌<◌, ◌≤◌}
use Rattle.std.proofs.Math.Dec.{eqb, leb}
use Rattle.std.proofs.Math.ListN.{get_or-eq_default}
use borrow.Author.Tests.{ltb-false, eqb-false, not-false}
use Rattle.vocabulary.proofs.Test.{lt_or_le}
use Rattle.vocabulary.specs.First.{first_of}
use Rattle.vocabulary.proofs.First.{first_same}
use Rattle.vocabulary.specs.Least.{least, some}
use Rattle.vocabulary.proofs.Least.{some_at, some_not, some_same, least_same}
use Rattle.kinds.specs.Tasks.{Tasks, Patterns, Set, period, offset, deadline, from_task, to_task, pair_count}
use Rattle.kinds.specs.Cycle.{jobs_of}
use Rattle.kinds.specs.Jobs.{release}
use Rattle.kinds.specs.Links.{link_from, link_to, repeats}
use Rattle.kinds.specs.Plans.{Plan, plan_of, slot, ticks, first_tick, last_tick}
use Rattle.kinds.specs.Sound.{sound}
use Rattle.kinds.proofs.SoundFacts.{Sound, sound_facts}
use Rattle.kinds.proofs.WhatCounts.{Agree, cycle_agree, jobs_of_agree, sound_agree}
use Rattle.slots.specs.High.{high}
use Rattle.judge.specs.declared.Verdict.{Verdict}
use Rattle.judge.specs.declared.Verdict.TheVariants as verdict
use Rattle.judge.specs.Rules.{strays, strayed, miscounts, miscounted, against, bars, broken, breaks, broken_pair, broken_pattern}
use Rattle.judge.specs.Judgement.{high_at, outside_at, wrong_at, broken_at, plan_rules, rules, verdict_of}
use Rattle.dispatcher.specs.declared.State.{State}
use Rattle.dispatcher.specs.Refusals.{started_of}
use Rattle.theorems.specs.SameTasks.{same_period, same_running, same_offset, same_deadline, same_plan, same_release, same_past}
use Rattle.theorems.specs.SameTasks.{same_ticks, same_first_tick, same_last_tick, same_from, same_to, same_pairs, same_repeats}
use Rattle.theorems.specs.SameTasks.{same_link_from, same_link_to}

-- no slot of a plan is above n, also past its end
low_slot : (p : Plan) (n : ℕ) → some (high p.slots n) (length p.slots) ≡ false → (c q : ℕ) → slot p c q ≤ n
unfolding slot high
low_slot p n e c q =
    let x : ℕ = c % p.cycle * p.processors + q in
    ⊎_elim (λ l. ltb-false n (get_or p.slots x 0) (some_not (high p.slots n) (length p.slots) e x l))
    (λ l. let z = get_or-eq_default p.slots 0 l in omega (arith, z))
    (lt_or_le x (length p.slots))

-- job k of task i, with what it gets
abbrev fell_at : Tasks → Plan → ℕ → ℕ → Verdict
fell_at u p i k = verdict.WrongCount i k (ticks u p i k) (first_tick u p i k) (last_tick u p i k)

-- the lowest broken link of pattern k
abbrev link_at : Tasks → Patterns → Plan → ℕ → Verdict
link_at u v p k =
    let q : ℕ = least (broken_pair u v p k) (pair_count v k) in
    verdict.BrokenLink k q (least (breaks u v p k q) (repeats u v k))

module _ (s t : Set) (g : Agree s t) (f : Sound s) (p : Plan) where
  abbrev u : Tasks
  u = s.tasks

  abbrev w : Tasks
  w = t.tasks

  -- ---- 21
  same_strays : ((c q : ℕ) → slot p c q ≤ u.count) → (c q : ℕ) → strays u p c q ≡ strays w p c q
  unfolding strays
  same_strays low c q = by (eqb (slot p c q) 0) refl
    where
      by : (b : Bool) → eqb (slot p c q) 0 ≡ b
          → (not b && leb (deadline u (slot p c q - 1)) ((c + p.cycle - offset u (slot p c q - 1)) % period u (slot p c q - 1)))
          ≡ (not b && leb (deadline w (slot p c q - 1)) ((c + p.cycle - offset w (slot p c q - 1)) % period w (slot p c q - 1)))
      by true e = refl
      by false e =
          let i : ℕ = slot p c q - 1 in
          let some-task : slot p c q ≡ 0 → ⊥ = eqb-false (slot p c q) 0 e in
          let l : i < u.count = omega (arith, low c q, some-task) in
          rw (same_deadline s t g i l, same_offset s t g i l, same_period s t g i l)

  same_strayed : ((c q : ℕ) → slot p c q ≤ u.count) → (c : ℕ) → strayed u p c ≡ strayed w p c
  unfolding strayed
  same_strayed low c = some_same (strays u p c) (strays w p c) p.processors (λ q l. same_strays low c q)

  same_outside : ((c q : ℕ) → slot p c q ≤ u.count) → outside_at u p ≡ outside_at w p
  unfolding outside_at
  same_outside low =
      let a = least_same (strayed u p) (strayed w p) p.cycle (λ c l. same_strayed low c) in
      let c : ℕ = least (strayed u p) p.cycle in
      ap (verdict.Outside c) (least_same (strays u p c) (strays w p c) p.processors (λ q l. same_strays low c q))
      ∙ ap (λ (d : ℕ). verdict.Outside d (least (strays w p d) p.processors)) a

  -- ---- 22
  same_miscounts : (i k : ℕ) → i < u.count → miscounts u p i k ≡ miscounts w p i k
  unfolding miscounts
  same_miscounts i k l = ap₂ (λ (a b : ℕ). not (eqb a b)) (same_ticks s t g p i k l) (same_running s t g i l)

  least_job : (i : ℕ) → i < u.count → least (miscounts u p i) (jobs_of u i) ≡ least (miscounts w p i) (jobs_of w i)
  least_job i l =
      least_same (miscounts u p i) (miscounts w p i) (jobs_of u i) (λ k h. same_miscounts i k l)
      ∙ ap (least (miscounts w p i)) (jobs_of_agree s t g i l)

  same_miscounted : (i : ℕ) → i < u.count → miscounted u p i ≡ miscounted w p i
  unfolding miscounted
  same_miscounted i l =
      some_same (miscounts u p i) (miscounts w p i) (jobs_of u i) (λ k h. same_miscounts i k l)
      ∙ ap (some (miscounts w p i)) (jobs_of_agree s t g i l)

  any_miscounted : some (miscounted u p) u.count ≡ some (miscounted w p) w.count
  any_miscounted = some_same (miscounted u p) (miscounted w p) u.count same_miscounted ∙ ap (some (miscounted w p)) g.task_count

  same_fell : (i k : ℕ) → i < u.count → fell_at u p i k ≡ fell_at w p i k
  same_fell i k l = rw (same_ticks s t g p i k l, same_first_tick s t g p i k l, same_last_tick s t g p i k l)

  same_wrong : some (miscounted u p) u.count ≡ true → wrong_at u p ≡ wrong_at w p
  unfolding wrong_at
  same_wrong e =
      let i : ℕ = least (miscounted u p) u.count in
      let l : i < u.count = (some_at (miscounted u p) u.count e).0 in
      let a = least_same (miscounted u p) (miscounted w p) u.count same_miscounted ∙ ap (least (miscounted w p)) g.task_count in
      same_fell i (least (miscounts u p i) (jobs_of u i)) l
      ∙ ap (fell_at w p i) (least_job i l)
      ∙ ap (λ (j : ℕ). fell_at w p j (least (miscounts w p j) (jobs_of w j))) a

  -- ---- 23
  same_against : (j l x y : ℕ) → j < u.count → against u p j l x y ≡ against w p j l x y
  unfolding against
  same_against j l x y h = ap₂ ◌&&◌ (same_past s t g p j l y h) (ap (λ (r : ℕ). leb (r + y) x) (same_release s t g j l h))

  same_bars : (i k j l x : ℕ) → i < u.count → j < u.count → bars u p i k j l x ≡ bars w p i k j l x
  unfolding bars
  same_bars i k j l x hi hj =
      ap₂ ◌&&◌ (same_past s t g p i k x hi)
      (some_same (against u p j l (release u i k + x)) (against w p j l (release u i k + x)) (deadline u j)
      (λ y h. same_against j l (release u i k + x) y hj)
      ∙ ap₂ (λ (r d : ℕ). some (against w p j l (r + x)) d) (same_release s t g i k hi) (same_deadline s t g j hj))

  same_broken : (i k j l : ℕ) → i < u.count → j < u.count → broken u p i k j l ≡ broken w p i k j l
  unfolding broken
  same_broken i k j l hi hj =
      some_same (bars u p i k j l) (bars w p i k j l) (deadline u i) (λ x h. same_bars i k j l x hi hj)
      ∙ ap (some (bars w p i k j l)) (same_deadline s t g i hi)

  moved : {i i' k k' j j' l l' : ℕ} → i ≡ i' → k ≡ k' → j ≡ j' → l ≡ l' → broken w p i k j l ≡ broken w p i' k' j' l'
  moved a b c d = rw (a, b, c, d)

  abbrev v : Patterns
  v = s.patterns

  abbrev z : Patterns
  z = t.patterns

  module _ (k : ℕ) (l : k < v.count) where
    same_breaks : (q n : ℕ) → q < pair_count v k → breaks u v p k q n ≡ breaks w z p k q n
    unfolding breaks
    same_breaks q n h =
        same_broken (from_task v k) (link_from u v k q n) (to_task v k) (link_to u v k q n) (f.from_low k l) (f.to_low k l)
        ∙ moved (same_from s t g k l) (same_link_from s t g f k l q h n) (same_to s t g k l) (same_link_to s t g f k l q h n)

    least_link : (q : ℕ) → q < pair_count v k → least (breaks u v p k q) (repeats u v k) ≡ least (breaks w z p k q) (repeats w z k)
    least_link q h =
        least_same (breaks u v p k q) (breaks w z p k q) (repeats u v k) (λ n m. same_breaks q n h)
        ∙ ap (least (breaks w z p k q)) (same_repeats s t g f k l)

    same_pair : (q : ℕ) → q < pair_count v k → broken_pair u v p k q ≡ broken_pair w z p k q
    unfolding broken_pair
    same_pair q h =
        some_same (breaks u v p k q) (breaks w z p k q) (repeats u v k) (λ n m. same_breaks q n h)
        ∙ ap (some (breaks w z p k q)) (same_repeats s t g f k l)

    least_pair : least (broken_pair u v p k) (pair_count v k) ≡ least (broken_pair w z p k) (pair_count z k)
    least_pair =
        least_same (broken_pair u v p k) (broken_pair w z p k) (pair_count v k) same_pair ∙ ap (least (broken_pair w z p k)) (same_pairs s t g k l)

    same_pattern : broken_pattern u v p k ≡ broken_pattern w z p k
    unfolding broken_pattern
    same_pattern =
        some_same (broken_pair u v p k) (broken_pair w z p k) (pair_count v k) same_pair ∙ ap (some (broken_pair w z p k)) (same_pairs s t g k l)

    same_link : broken_pattern u v p k ≡ true → link_at u v p k ≡ link_at w z p k
    unfolding broken_pattern
    same_link e =
        let q : ℕ = least (broken_pair u v p k) (pair_count v k) in
        let h : q < pair_count v k = (some_at (broken_pair u v p k) (pair_count v k) e).0 in
        ap (verdict.BrokenLink k q) (least_link q h)
        ∙ ap (λ (r : ℕ). verdict.BrokenLink k r (least (breaks w z p k r) (repeats w z k))) least_pair

  any_broken : some (broken_pattern u v p) v.count ≡ some (broken_pattern w z p) z.count
  any_broken = some_same (broken_pattern u v p) (broken_pattern w z p) v.count same_pattern ∙ ap (some (broken_pattern w z p)) g.pattern_count

  same_broken_at : some (broken_pattern u v p) v.count ≡ true → broken_at u v p ≡ broken_at w z p
  unfolding broken_at
  same_broken_at e =
      let h = some_at (broken_pattern u v p) v.count e in
      let a = least_same (broken_pattern u v p) (broken_pattern w z p) v.count same_pattern ∙ ap (least (broken_pattern w z p)) g.pattern_count in
      same_link (least (broken_pattern u v p) v.count) h.0 h.1
      ∙ ap (link_at w z p) a

  -- ---- the plan's rules, in their order
  same_rules : first_of (plan_rules u v p) verdict.Accepted ≡ first_of (plan_rules w z p) verdict.Accepted
  unfolding plan_rules high_at
  same_rules =
      first_same _ _ _ _ _ (ap (λ (n : ℕ). some (high p.slots n) (length p.slots)) g.task_count)
      (λ e. ap (λ (n : ℕ). verdict.BadSlot (least (high p.slots n) (length p.slots))) g.task_count)
      (λ e.
      let low = low_slot p u.count e in
      first_same _ _ _ _ _ refl (λ h. refl)
      (λ h. first_same _ _ _ _ _ (some_same (strayed u p) (strayed w p) p.cycle (λ c l. same_strayed low c)) (λ a. same_outside low)
      (λ a. first_same _ _ _ _ _ any_miscounted same_wrong (λ b. first_same _ _ _ _ _ any_broken same_broken_at (λ c. refl)))))

-- ==== Entries beyond the counts count for nothing: sets that agree on the counts and on the entries within them get the same verdict for every plan,
pub same_verdict : (s t : Set) → Agree s t → (slots : List ℕ) → verdict_of s slots ≡ verdict_of t slots
unfolding verdict_of rules
same_verdict s t g slots =
    first_same _ _ _ _ _ (ap not (sound_agree s t g)) (λ e. refl)
    (λ e. first_same _ _ _ _ _ (ap₂ (λ (m h : ℕ). not (eqb (length slots) (m * h))) g.processors (cycle_agree s t g)) (λ a. refl)
    (λ a.
    same_rules s t g (sound_facts s (not-false (sound s) e)) (plan_of s slots)
    ∙ ap (λ (p : Plan). first_of (plan_rules t.tasks t.patterns p) verdict.Accepted) (same_plan s t g slots)))

-- ==== and starting answers the same.
pub same_start : (s t : Set) → Agree s t → (slots : List ℕ) (state : State) → started_of s slots state ≡ started_of t slots state
unfolding started_of
same_start s t g slots state = rw (same_verdict s t g slots)
