-- Laws of the definitions in specs/Demand3Heard.antt.
use Rattle.std.specs.Prelude.{◌≡◌, refl, Bool, false, ◌&&◌, ◌||◌, List, ◌⊎◌, ℕ, suc, ◌+◌, ◌*◌, ◌<◌, ◌≤◌}
use Rattle.std.proofs.Math.Path.{sym, ap}
use Rattle.std.proofs.Common.{◌∙◌, inl, inr, le_refl, mul-le-mul, arith}
use Rattle.std.proofs.Math.Bool.{true, not}
use Rattle.vocabulary.proofs.Test.{both, lt_or_le}
use Rattle.vocabulary.specs.Bits.{has}
use Rattle.vocabulary.proofs.Bits.{has_none}
use Rattle.kinds.specs.Tasks.{Tasks, Set, period, deadline}
use Rattle.kinds.specs.Jobs.{release, in_window}
use Rattle.kinds.specs.Plans.{plan_of}
use Rattle.kinds.specs.Valid.{Valid, InSomeWindow}
use Rattle.kinds.proofs.SoundFacts.{sound_facts}
use Rattle.laws.proofs.Windows.{window_facts}
use Rattle.dispatcher.specs.Steps.{releases, heard, done_of, step_of, after_of}
use Rattle.dispatcher.specs.Runs.{Play, play_of, state_at, shown_at, gives, finishes}
use Rattle.dispatcher.proofs.StepFacts.{done_bit_lem, ran_bit}
use Rattle.theorems.specs.Demand3Terms.{Playable, Fits}
use Rattle.theorems.proofs.Demand3Plans.{plan_playable, plan_right}
use Rattle.theorems.specs.OneTask.{released_at}
use Rattle.theorems.proofs.OneTask.{next_release, tick_at_lem, is_released, not_released}
use Rattle.theorems.proofs.Demand3.{none_after, nobody_outside}
use Rattle.theorems.specs.Demand3Heard.{tick_of_step, HeardFor}

-- ==== The report of step n + 1 is heard for task i, by the ran mark that step n left, exactly where the theorems say that the task finishes in tick n.
module _ (y : Play) (i : ℕ) (l : i < y.tasks.count) (reports : ℕ → ℕ) where
  pub ran_is_given : (n : ℕ) → has (state_at y reports (suc n)).ran i ≡ gives y reports i n
  unfolding state_at step_of after_of gives shown_at
  ran_is_given n = ran_bit (shown_at y reports n) y.tasks.count i l

  pub heard_is_finish : (n : ℕ) → heard (state_at y reports (suc n)) (reports (suc n)) i ≡ finishes y reports i n
  unfolding heard finishes
  heard_is_finish n = ap (λ (b : Bool). b && has (reports (suc n)) i) (ran_is_given n)

  -- Step 0 hears nobody: no tick has ended before it.
  pub first_hears_none : heard (state_at y reports 0) (reports 0) i ≡ false
  unfolding heard state_at
  first_hears_none = ap (λ (b : Bool). b && has (reports 0) i) (has_none i)

-- windows of two jobs of a task do not meet where D ≤ T
later_job : (u : Tasks) (i j k : ℕ) → j < k → release u i j + period u i ≤ release u i k
unfolding release
later_job u i j k l =
    let a : suc j * period u i ≤ k * period u i = mul-le-mul (let g : suc j ≤ k = omega arith in g) (le_refl (period u i)) in
    omega (arith, next_release u i j)

one_window : (u : Tasks) (i j k t : ℕ) → deadline u i ≤ period u i → in_window u i j t ≡ true → in_window u i k t ≡ true → j ≡ k
one_window u i j k t d a b = go (lt_or_le j k) (lt_or_le k j) (window_facts u i j t a) (window_facts u i k t b)
  where
    go : (j < k) ⊎ (k ≤ j) → (k < j) ⊎ (j ≤ k)
        → (release u i j ≤ t) × (t < release u i j + deadline u i) → (release u i k ≤ t) × (t < release u i k + deadline u i) → j ≡ k
    go (inl h) g v w = absurd (omega (arith, later_job u i j k h, v.1, w.0))
    go (inr h) (inl g) v w = absurd (omega (arith, later_job u i k j g, v.0, w.1))
    go (inr h) (inr g) v w = omega arith

-- the done mark that a step leaves a task
module _ (y : Play) (f : Playable y) (i : ℕ) (l : i < y.tasks.count) (reports : ℕ → ℕ) where
  abbrev done_bit : ℕ → Bool
  done_bit n = has (done_of (tick_of_step y reports n)) i

  done_is : (n : ℕ) → done_bit n ≡ (not (released_at y i n) && (has (state_at y reports n).done i || heard (state_at y reports n) (reports n) i))
  unfolding released_at heard
  done_is n =
      done_bit_lem (tick_of_step y reports n) i l
      ∙ ap
      (λ (t : ℕ). not (releases y.tasks y.cycle i t)
      && (has (state_at y reports n).done i || (has (state_at y reports n).ran i && has (reports n) i)))
      (tick_at_lem y f reports n)

  heard_marks : (n : ℕ) → heard (state_at y reports n) (reports n) i ≡ true → released_at y i n ≡ false → done_bit n ≡ true
  heard_marks n h e = done_is n ∙ rw (e, h) (or_true (has (state_at y reports n).done i))
    where
      or_true : (c : Bool) → (c || true) ≡ true
      or_true true = refl
      or_true false = refl

  release_clears : (n : ℕ) → released_at y i n ≡ true → done_bit n ≡ false
  release_clears n e = done_is n ∙ rw e

-- ==== In a run over a plan that keeps rules 10, 11 and 12 and is valid, as an accepted one does and is, a report that is heard is heard for the job whose
-- window holds the tick just ended.
module _ (s : Set) (slots : List ℕ) (fits : Fits s slots) (valid : Valid s (plan_of s slots)) (reports : ℕ → ℕ) where
  abbrev z : Play
  z = play_of s slots

  abbrev playable : Playable z
  playable = plan_playable s slots fits

  pub heard_for : (i n : ℕ) → i < s.tasks.count → heard (state_at (play_of s slots) reports (suc n)) (reports (suc n)) i ≡ true
      → HeardFor (play_of s slots) reports i n
  unfolding finishes
  heard_for i n l h = go (nobody_outside z playable s.patterns (plan_right s slots fits valid) reports i n l given)
    where
      ends : finishes z reports i n ≡ true
      ends = sym (heard_is_finish z i l reports n) ∙ h

      given : gives z reports i n ≡ true
      given = (both {a = gives z reports i n} ends).0

      low : deadline s.tasks i ≤ period s.tasks i
      low = (sound_facts s fits.is_sound).deadline_low i l

      go : InSomeWindow s.tasks i n → HeardFor z reports i n
      go w =
          let k : ℕ = w.job in
          let v = window_facts s.tasks i k n w.within in
          let g : suc n ≤ release s.tasks i (suc k) = omega (arith, low, next_release s.tasks i k, v.1) in
          record {
            job = k;
            within = w.within;
            only = λ j e. one_window s.tasks i j k n low e w.within;
            next = g;
            marked = λ a. heard_marks z playable i l reports (suc n) h (not_released z playable i l k (suc n) (omega (arith, v.0)) a);
            cleared = λ a. release_clears z playable i l reports (suc n) (ap (released_at z i) a ∙ is_released z playable i l (suc k));
            over = λ t a b. none_after z playable i l reports k n t v.0 ends a b;
          }
