-- Laws of the definitions in specs/OneTask.antt.
use Rattle.std.specs.Prelude.{◌≡◌, Bool, ◌&&◌, ◌||◌, not, ◌⊎◌, ltb, leb}
use Rattle.std.proofs.Math.Path.{refl, sym, ap}
use Rattle.std.proofs.Common.{◌∙◌, inl, inr, add-zero, add-suc, suc-mul, mod-eq_of_lt, mod-lt, lt_of_lt_of_le, add-one}
use Rattle.std.proofs.Math.Bool.{true, false}
use Prim.Native.Nat.{ℕ, zero, suc, ◌+◌, ◌-◌, ◌%◌, ◌<◌, ◌≤◌}
use Rattle.std.proofs.Math.Nat.{suc-mod, mod_self, zero-mod, le_of_dvd}
use native.Mathlib.Omega.{arith}
use borrow.Author.Tests.{lt-ltb, le-ltb, le-leb, lt-leb, eq-eqb, ne_eqb}
use Rattle.vocabulary.specs.Test.{pick}
use Rattle.vocabulary.proofs.Test.{lt_or_le, both, and_true, and_false, and_swap, not_or}
use Rattle.vocabulary.specs.Least.{some}
use Rattle.vocabulary.specs.Bits.{has}
use Rattle.vocabulary.proofs.Bits.{has_none}
use Rattle.vocabulary.proofs.Remainder.{since}
use Rattle.kinds.specs.Tasks.{Tasks, period, offset}
use Rattle.kinds.specs.Jobs.{release}
use Rattle.kinds.specs.Plans.{awake}
use Rattle.dispatcher.specs.Steps.{OneTick, releases, done_of, asleep, after_of, step_of}
use Rattle.dispatcher.specs.Runs.{Play, tick_at, state_at, shown_at, gives, finishes}
use Rattle.dispatcher.proofs.StepFacts.{done_bit_lem, ran_bit, row_shows}
use Rattle.theorems.specs.Demand3Terms.{names, planned, Playable}
use Rattle.theorems.specs.OneTask.{stopped, marks_alone, gives_alone, ends_alone, released_at, told_at, alone, Sim}

-- ---- laws of one task
module _ (wanted released told : ℕ → Bool) where
  abbrev stop : ℕ → Bool
  stop n = stopped released told (marks_alone wanted released told n) n

  abbrev has_tick : ℕ → Bool
  has_tick = gives_alone wanted released told

  abbrev ends : ℕ → Bool
  ends = ends_alone wanted released told

  stop_next : (n : ℕ) → stop (suc n) ≡ (not (released (suc n)) && (stop n || ends n))
  unfolding marks_alone stopped ends_alone gives_alone
  stop_next n = refl

  stop_release : (n : ℕ) → released n ≡ true → stop n ≡ false
  unfolding stopped
  stop_release n e = rw e

  -- a tick that the task has is a planned one
  pub gives_wanted : (n : ℕ) → gives_alone wanted released told n ≡ true → wanted n ≡ true
  unfolding gives_alone
  gives_wanted n e = (both e).0

  or_true : (c : Bool) → (c || true) ≡ true
  or_true true = refl
  or_true false = refl

  -- a job that has ended is stopped up to the next release
  quiet : (n d : ℕ) → ends n ≡ true → ((t : ℕ) → n < t → t ≤ suc n + d → released t ≡ false) → stop (suc n + d) ≡ true
  quiet n zero e h = rw (add-zero (suc n)) (stop_next n ∙ rw (h (suc n) (omega arith) (omega arith), e) (or_true (stop n)))
  quiet n (suc d) e h =
      rw (add-suc (suc n) d)
      (stop_next (suc n + d) ∙ rw (h (suc (suc n + d)) (omega arith) (omega arith), quiet n d e (λ t a c. h t a (omega arith))))

  -- so it gets no tick
  pub after_end : (n t : ℕ) → ends_alone wanted released told n ≡ true → n < t
      → ((x : ℕ) → n < x → x ≤ t → released x ≡ false)
      → gives_alone wanted released told t ≡ false
  unfolding gives_alone
  after_end n t e l h =
      let g : suc n + (t - suc n) ≡ t = omega arith in
      let q : stop t ≡ true = rw g at (quiet n (t - suc n) e (λ x a c. h x a (omega arith))) in
      rw q (and_false (wanted t))

  -- a job released at r that has not ended is not stopped
  free : (r d : ℕ) → released r ≡ true → ((t : ℕ) → r ≤ t → t < r + d → ends t ≡ false) → stop (r + d) ≡ false
  free r zero e h = rw (add-zero r) (stop_release r e)
  free r (suc d) e h =
      rw (add-suc r d)
      (stop_next (r + d)
      ∙ rw (free r d e (λ t a c. h t a (omega arith)), h (r + d) (omega arith) (omega arith)) (and_false (not (released (suc (r + d))))))

  -- a job released at r that has not ended before t gets tick t exactly if it is planned
  pub until_end : (r t : ℕ) → released r ≡ true → r ≤ t
      → ((x : ℕ) → r ≤ x → x < t → ends_alone wanted released told x ≡ false)
      → gives_alone wanted released told t ≡ wanted t
  unfolding gives_alone
  until_end r t h a early =
      let g : r + (t - r) ≡ t = omega arith in
      let q : stop t ≡ false = rw g at (free r (t - r) h (λ x b c. early x b (omega arith))) in
      rw q (and_true (wanted t))

-- reports after a tick do not change what the task has at that tick
module _ (wanted released told told' : ℕ → Bool) where
  same_marks : (n : ℕ) → ((k : ℕ) → k < n → told k ≡ told' k) → marks_alone wanted released told n ≡ marks_alone wanted released told' n
  unfolding marks_alone stopped
  same_marks zero h = refl
  same_marks (suc n) h = rw (same_marks n (λ k l. h k (omega arith)), h n (omega arith))

  pub same_gives : (n : ℕ) → ((k : ℕ) → k ≤ n → told k ≡ told' k) → gives_alone wanted released told n ≡ gives_alone wanted released told' n
  unfolding gives_alone stopped
  same_gives n h = rw (same_marks n (λ k l. h k (omega arith)), h n (omega arith))

-- ---- releases
pub next_release : (u : Tasks) (i k : ℕ) → release u i (suc k) ≡ release u i k + period u i
unfolding release
next_release u i k = omega (arith, suc-mul k (period u i))

-- ---- the clock of a play
module _ (y : Play) (f : Playable y) (reports : ℕ → ℕ) where
  abbrev h : ℕ
  h = y.cycle

  next_tick : (n : ℕ) → pick (ltb (n % h + 1) h) (n % h + 1) 0 ≡ suc n % h
  next_tick n = go (lt_or_le (n % h + 1) h)
    where
      go : (n % h + 1 < h) ⊎ (h ≤ n % h + 1) → pick (ltb (n % h + 1) h) (n % h + 1) 0 ≡ suc n % h
      go (inl k) = rw (lt-ltb (n % h + 1) h k, suc-mod n h, add-one) (sym (mod-eq_of_lt (let g : suc (n % h) < h = omega arith in g)))
      go (inr k) =
          let g : suc (n % h) ≡ h = omega (arith, mod-lt n f.some_cycle) in
          rw (le-ltb (n % h + 1) h k, suc-mod n h, g) (sym (mod_self h))

  next_first : (n : ℕ) → (ltb n h && ltb (n % h + 1) h) ≡ ltb (suc n) h
  next_first n = go (lt_or_le n h)
    where
      go : (n < h) ⊎ (h ≤ n) → (ltb n h && ltb (n % h + 1) h) ≡ ltb (suc n) h
      go (inl k) = rw (lt-ltb n h k, mod-eq_of_lt k, add-one)
      go (inr k) = rw (le-ltb n h k) (sym (le-ltb (suc n) h (omega arith)))

  -- the state before step n has the slot tick of time n,
  pub tick_at_lem : (n : ℕ) → (state_at y reports n).tick ≡ n % y.cycle
  unfolding state_at step_of after_of
  tick_at_lem zero = sym (zero-mod h)
  tick_at_lem (suc n) = rw (tick_at_lem n) (next_tick n)

  -- and knows whether the first cycle lasts
  pub first_at_lem : (n : ℕ) → (state_at y reports n).first ≡ ltb n y.cycle
  unfolding state_at step_of after_of
  first_at_lem zero = sym (lt-ltb 0 h f.some_cycle)
  first_at_lem (suc n) = rw (first_at_lem n, tick_at_lem n) (next_first n)

module _ (y : Play) (f : Playable y) (i : ℕ) (l : i < y.tasks.count) where
  abbrev u : Tasks
  u = y.tasks

  abbrev H : ℕ
  H = y.cycle

  low : offset u i < H
  low = lt_of_lt_of_le (f.offset_low i l) (le_of_dvd f.some_cycle (f.divides i l))

  not_asleep : (n : ℕ) → not (ltb n H && ltb (n % H) (offset u i)) ≡ leb (offset u i) n
  not_asleep n = go (lt_or_le n H) (lt_or_le n (offset u i))
    where
      go : (n < H) ⊎ (H ≤ n) → (n < offset u i) ⊎ (offset u i ≤ n) → not (ltb n H && ltb (n % H) (offset u i)) ≡ leb (offset u i) n
      go (inl h) (inl k) = rw (lt-ltb n H h, mod-eq_of_lt h, lt-ltb n (offset u i) k, lt-leb (offset u i) n k)
      go (inl h) (inr k) = rw (lt-ltb n H h, mod-eq_of_lt h, le-ltb n (offset u i) k, le-leb (offset u i) n k)
      go (inr h) k = rw (le-ltb n H h, le-leb (offset u i) n (omega (arith, low)))

  module _ (reports : ℕ → ℕ) where
    abbrev stop_at : ℕ → Bool
    stop_at n = stopped (released_at y i) (told_at reports i) (alone y i reports n) n

    abbrev here : ℕ → OneTick
    here n = tick_at y n (state_at y reports n) (reports n)

    done_is : (n : ℕ) → Sim y i reports n → has (done_of (here n)) i ≡ stop_at n
    unfolding stopped released_at told_at
    done_is n s = done_bit_lem (here n) i l ∙ rw (s.tick, s.done, s.ran)

    gives_is : (n : ℕ) → Sim y i reports n → gives y reports i n ≡ (planned y i n && not (stop_at n))
    unfolding gives shown_at planned names awake asleep
    gives_is n s =
        row_shows (here n) i
        ∙ rw (done_is n s, s.first, s.tick, not_or, not_asleep n)
        (and_swap (leb (offset u i) n) (not (stop_at n)) (some (names y i n) y.processors))

    pub sim : (n : ℕ) → Sim y i reports n
    unfolding state_at marks_alone step_of after_of gives shown_at
    sim zero = record { tick = tick_at_lem y f reports 0; first = first_at_lem y f reports 0; done = has_none i; ran = has_none i }
    sim (suc n) =
        let s : Sim y i reports n = sim n in
        record {
          tick = tick_at_lem y f reports (suc n);
          first = first_at_lem y f reports (suc n);
          done = done_is n s;
          ran = ran_bit (shown_at y reports n) u.count i l ∙ gives_is n s;
        }

    -- the dispatcher gives task i exactly the ticks that it would have alone, and hears the same ends
    pub as_alone : (n : ℕ) → gives y reports i n ≡ gives_alone (planned y i) (released_at y i) (told_at reports i) n
    unfolding gives_alone
    as_alone n = gives_is n (sim n)

    pub ends_alone_lem : (n : ℕ) → finishes y reports i n ≡ ends_alone (planned y i) (released_at y i) (told_at reports i) n
    unfolding finishes ends_alone told_at
    ends_alone_lem n = ap (λ (b : Bool). b && has (reports (suc n)) i) (as_alone n)

  -- ---- releases
  far : (k d : ℕ) → d < period u i → ((release u i k + d) % H + H - offset u i) % period u i ≡ d
  unfolding release
  far k d = since (period u i) (offset u i) H k d (f.divides i l) (f.offset_low i l) low

  -- a job is released at its release,
  pub is_released : (k : ℕ) → released_at y i (release u i k) ≡ true
  unfolding released_at releases
  is_released k =
      let g : 0 < period u i = omega (arith, f.offset_low i l) in
      eq-eqb _ _ (rw (add-zero (release u i k)) at (far k 0 g))

  -- and at no time up to the next
  pub not_released : (k t : ℕ) → release u i k < t → t < release u i (suc k) → released_at y i t ≡ false
  unfolding released_at releases
  not_released k t a b =
      let d : ℕ = t - release u i k in
      let g : release u i k + d ≡ t = omega arith in
      let z : d < period u i = omega (arith, next_release u i k) in
      let w : (t % H + H - offset u i) % period u i ≡ d = rw g at (far k d z) in
      ne_eqb ((t % H + H - offset u i) % period u i) 0 (λ e. omega arith)
