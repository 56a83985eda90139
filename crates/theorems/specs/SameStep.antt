-- Two sets that agree on what counts step alike: the same answer, the same next state, and the same bytes in the output.
use Rattle.std.specs.Prelude.{◌≡◌, Bool, ◌&&◌, ◌||◌, ◌⊎◌, length, Ok, Err}
use Rattle.std.proofs.Math.Path.{refl, ap, ap₂}
use Rattle.std.proofs.Common.{sym, ◌∙◌, inl, inr, arith}
use Rattle.std.proofs.Math.Bool.{true, false, not}
use mathlib.Core.List.{List}
use Prim.Native.Nat.{ℕ, zero, suc, ◌+◌, ◌-◌, ◌*◌, ◌^◌, ◌<◌, ◌≤◌}
use Rattle.std.proofs.Math.Dec.{eqb, leb, ltb}
use borrow.Author.Tests.{ltb-false, eqb-false}
use Rattle.vocabulary.specs.Test.{pick, bit}
use Rattle.vocabulary.proofs.First.{first_same}
use Rattle.vocabulary.specs.Least.{least, some}
use Rattle.vocabulary.proofs.Least.{some_not}
use Rattle.vocabulary.specs.Bits.{has, pack}
use Rattle.vocabulary.specs.Table.{table}
use Rattle.kinds.specs.Tasks.{Tasks, Set, offset}
use Rattle.kinds.specs.Cycle.{cycle}
use Rattle.kinds.proofs.WhatCounts.{Agree, cycle_agree, sound_agree}
use Rattle.dispatcher.specs.declared.State.{State}
use Rattle.dispatcher.specs.declared.StepError.TheVariants as error
use Rattle.dispatcher.specs.Answers.{Answer}
use Rattle.dispatcher.specs.Steps.{releases, heard, done_at, done_of, asleep, byte_of, row_of, ran_of, after_of, step_of}
use Rattle.dispatcher.specs.Refusals.{impossible, overreports, high_slot, is_high, high_place, step_rules, answer_by, if_shown, is_shown, row_at, tick_of}
use Rattle.dispatcher.specs.Refusals.{lengths_fit}
use Rattle.dispatcher.specs.Refusals.{answer_of, stepped, stepped_of, left_of}
use Rattle.dispatcher.proofs.RowLaws.{table_same}
use Rattle.dispatcher.proofs.StepFacts.{shown_kept, when_shown, when_refused, shown_or_not}
use Rattle.theorems.specs.SameTasks.{same_period, same_offset}

-- words of marks that agree below n
pack_same : (f g : ℕ → Bool) (n : ℕ) → ((i : ℕ) → i < n → f i ≡ g i) → pack f n ≡ pack g n
unfolding pack
pack_same f g zero h = refl
pack_same f g (suc n) h =
    ap₂ (λ (x : ℕ) (b : Bool). x + bit b * 2 ^ n) (pack_same f g n (λ i l. h i (omega arith))) (h n (omega arith))

-- what only a tick that is shown leaves
shown_same : {A : Type 0} (a : Answer) (x z y : A) → (a ≡ Ok tt → x ≡ z) → if_shown a x y ≡ if_shown a z y
shown_same {A} a x z y h = by (shown_or_not a)
  where
    by : (a ≡ Ok tt) ⊎ (is_shown a ≡ false) → if_shown a x y ≡ if_shown a z y
    by (inl e) = when_shown a x y e ∙ h e ∙ sym (when_shown a z y e)
    by (inr e) = when_refused a x y e ∙ sym (when_refused a z y e)

module _ (s t : Set) (g : Agree s t) (slots : List ℕ) (state : State) (report : ℕ) where
  abbrev u : Tasks
  u = s.tasks

  abbrev w : Tasks
  w = t.tasks

  -- the slots of the tick
  abbrev row : ℕ → ℕ → ℕ
  row m q = row_at slots (state.tick * m) q

  -- ---- the answer, which goes by the counts
  same_answer : (out : ℕ) → answer_of s slots state report out ≡ answer_of t slots state report out
  unfolding answer_of answer_by step_rules is_high high_place overreports impossible lengths_fit
  same_answer out =
      let m = g.processors in
      let n = g.task_count in
      let h = cycle_agree s t g in
      first_same _ _ _ _ _ (ap not (sound_agree s t g)) (λ e. refl)
      (λ e.
      first_same _ _ _ _ _ (ap₂ (λ (a b : ℕ). not (eqb (length slots) (a * b) && eqb out a)) m h) (λ a. refl)
      (λ a.
      first_same _ _ _ _ _ (ap₂ (λ (b c : ℕ). leb b state.tick || (leb (2 ^ c) state.done || leb (2 ^ c) state.ran)) h n) (λ b. refl)
      (λ b.
      first_same _ _ _ _ _ (ap (λ (c : ℕ). leb (2 ^ c) report) n) (λ c. refl)
      (λ c.
      first_same _ _ _ _ _ (ap₂ (λ (x y : ℕ). some (high_slot x (row y)) y) n m)
      (λ d. ap₂ (λ (x y : ℕ). Err (error.BadSlot (state.tick * y + least (high_slot x (row y)) y))) n m) (λ d. refl)))))

  -- ---- a tick that is shown: none of its slots is above the task count
  same_releases : (i : ℕ) → i < u.count → releases u (cycle u) i state.tick ≡ releases w (cycle w) i state.tick
  unfolding releases
  same_releases i l = rw (cycle_agree s t g, same_offset s t g i l, same_period s t g i l)

  same_done : done_of (tick_of s slots state report) ≡ done_of (tick_of t slots state report)
  unfolding done_of done_at
  same_done =
      pack_same (done_at u (cycle u) state report) (done_at w (cycle w) state report) u.count
      (λ i l. ap (λ (b : Bool). not b && (has state.done i || heard state report i)) (same_releases i l))
      ∙ ap (pack (done_at w (cycle w) state report)) g.task_count

  same_byte : (done v : ℕ) → v ≤ u.count → byte_of u state done v ≡ byte_of w state done v
  unfolding byte_of asleep
  same_byte done v l = by (eqb v 0) refl
    where
      by : (b : Bool) → eqb v 0 ≡ b
          → pick (b || (state.first && ltb state.tick (offset u (v - 1)) || has done (v - 1))) 0 v
          ≡ pick (b || (state.first && ltb state.tick (offset w (v - 1)) || has done (v - 1))) 0 v
      by true e = refl
      by false e =
          let some-task : v ≡ 0 → ⊥ = eqb-false v 0 e in
          let h : v - 1 < u.count = omega (arith, some-task) in
          ap (λ (o : ℕ). pick (state.first && ltb state.tick o || has done (v - 1)) 0 v) (same_offset s t g (v - 1) h)

  low_row : is_high (tick_of s slots state report) ≡ false → (q : ℕ) → q < s.processors → row s.processors q ≤ u.count
  unfolding is_high high_slot
  low_row e q l =
      ltb-false u.count (row s.processors q) (some_not (high_slot u.count (row s.processors)) s.processors e q l)

  same_row : is_high (tick_of s slots state report) ≡ false → row_of (tick_of s slots state report) ≡ row_of (tick_of t slots state report)
  unfolding row_of
  same_row e =
      let d : ℕ = done_of (tick_of s slots state report) in
      table_same (λ q. byte_of u state d (row s.processors q)) (λ q. byte_of w state d (row s.processors q)) s.processors
      (λ q l. same_byte d (row s.processors q) (low_row e q l))
      ∙ ap₂ (λ (x m : ℕ). table (λ q. byte_of w state x (row m q)) m) same_done g.processors

  same_next : is_high (tick_of s slots state report) ≡ false → step_of (tick_of s slots state report) ≡ step_of (tick_of t slots state report)
  unfolding step_of
  same_next e =
      ap₂ (λ (h d : ℕ). after_of h state d (ran_of (row_of (tick_of s slots state report)) u.count)) (cycle_agree s t g) same_done
      ∙ ap₂ (λ (r : List ℕ) (n : ℕ). after_of (cycle w) state (done_of (tick_of t slots state report)) (ran_of r n)) (same_row e) g.task_count

  low_when_shown : (out : ℕ) → answer_of s slots state report out ≡ Ok tt → is_high (tick_of s slots state report) ≡ false
  unfolding answer_of
  low_when_shown out e = (shown_kept _ _ _ (tick_of s slots state report) e).low

  -- ==== Entries beyond the counts count for nothing: sets that agree on the counts and on the entries within them give the same answer and next state,
  pub same_step : (out : List ℕ) → stepped_of s slots state report out ≡ stepped_of t slots state report out
  unfolding stepped_of
  same_step out =
      let a : Answer = answer_of s slots state report (length out) in
      let n : State = step_of (tick_of t slots state report) in
      ap (stepped a) (shown_same a (step_of (tick_of s slots state report)) n state (λ e. same_next (low_when_shown (length out) e)))
      ∙ ap (λ (x : Answer). stepped x (if_shown x n state)) (same_answer (length out))

  -- ==== and leave the same bytes in the output.
  pub same_left : (out : List ℕ) → left_of s slots state report out ≡ left_of t slots state report out
  unfolding left_of
  same_left out =
      let a : Answer = answer_of s slots state report (length out) in
      let r : List ℕ = row_of (tick_of t slots state report) in
      shown_same a (row_of (tick_of s slots state report)) r out (λ e. same_row (low_when_shown (length out) e))
      ∙ ap (λ (x : Answer). if_shown x r out) (same_answer (length out))
