-- A plan's repetition is a play: what its steps lean on.
use Rattle.std.specs.Prelude.{◌≡◌, refl, Bool, false, List, get_or, length, Ok}
use Rattle.std.proofs.Common.{sym, ◌∙◌, ⊎_elim, mod-lt, arith}
use Rattle.std.proofs.Math.Path.{ap}
use Prim.Native.Nat.{ℕ, zero, suc, ◌+◌, ◌*◌, ◌^◌, ◌≤◌, ◌<◌}
use Rattle.std.proofs.Math.ListN.{get_or-eq_default}
use Rattle.std.proofs.Math.Pow.{pow_pos}
use borrow.Author.Tests.{le-ltb}
use Rattle.vocabulary.proofs.Test.{lt_or_le}
use Rattle.vocabulary.proofs.Least.{none}
use Rattle.kinds.specs.Tasks.{Set, from_task, to_task}
use Rattle.kinds.specs.Cycle.{cycle}
use Rattle.kinds.specs.Plans.{plan_of, slot, shows, shown, runs, ticks}
use Rattle.kinds.specs.Valid.{Valid}
use Rattle.kinds.proofs.SoundFacts.{Sound, sound_facts}
use Rattle.judge.specs.declared.Verdict.TheVariants as verdict
use Rattle.judge.specs.Judgement.{verdict_of}
use Rattle.dispatcher.specs.declared.State.{State}
use Rattle.dispatcher.specs.Steps.{OneTick, step_of, row_of}
use Rattle.dispatcher.specs.Refusals.{impossible, high_slot, is_high, row_at, tick_of, stepped, stepped_of, left_of}
use Rattle.dispatcher.specs.Runs.{Play, play_of, tick_at, state_at, shown_at}
use Rattle.dispatcher.proofs.StepFacts.{done_low, ran_low, Allowed, none_refuses, is_possible, no_overreport}
use Rattle.theorems.specs.Demand3Terms.{names, planned, Playable, Right, Fits, GoesOn}
use Rattle.theorems.specs.Demand2.{accepted_iff}
use Rattle.theorems.proofs.OneTask.{tick_at_lem}

-- a planned tick of the play is one that the plan's repetition runs
pub planned_runs : (s : Set) (slots : List ℕ) (i : ℕ) → planned (play_of s slots) i ≡ runs s.tasks (plan_of s slots) i
unfolding planned runs shown shows names
planned_runs s slots i = refl

-- an accepted plan kept rules 10, 11 and 12
pub accepted_fits : (s : Set) (slots : List ℕ) → verdict_of s slots ≡ verdict.Accepted → Fits s slots
accepted_fits s slots e = let w = (accepted_iff s slots).0 e in record { is_sound = w.0; long = w.1; low = w.2 }

module _ (s : Set) (slots : List ℕ) (fits : Fits s slots) where
  abbrev y : Play
  y = play_of s slots

  facts : Sound s
  facts = sound_facts s fits.is_sound

  pub plan_playable : Playable (play_of s slots)
  plan_playable = record { some_cycle = facts.some_cycle; divides = facts.divides; offset_low = facts.offset_low }

  -- a valid plan's repetition is right for the set's patterns
  pub plan_right : Valid s (plan_of s slots) → Right (play_of s slots) s.patterns
  unfolding ticks
  plan_right w =
      record {
        from_low = facts.from_low;
        to_low = facts.to_low;
        inside = λ i t l. rw (planned_runs s slots i) (w.inside.each i t l);
        exact = λ i k l. rw (planned_runs s slots i) (w.exact.each i k l);
        kept = λ k q n x z lk lq a b. (w.kept.each k q n lk lq).each x z
            (record { ran = ap (λ (f : ℕ → Bool). f x) (sym (planned_runs s slots (from_task s.patterns k))) ∙ a.planned; within = a.within })
            (record { ran = ap (λ (f : ℕ → Bool). f z) (sym (planned_runs s slots (to_task s.patterns k))) ∙ b.planned; within = b.within });
      }

  pub slot_low : (e : ℕ) → get_or slots e 0 ≤ s.tasks.count
  slot_low e = ⊎_elim (fits.low e) (λ h. omega (arith, get_or-eq_default slots 0 h)) (lt_or_le e (length slots))

  none_high : (state : State) (report : ℕ) → is_high (tick_of s slots state report) ≡ false
  unfolding is_high high_slot
  none_high state report =
      none (high_slot s.tasks.count (row_at slots (state.tick * s.processors))) s.processors
      (λ q l. le-ltb s.tasks.count (row_at slots (state.tick * s.processors) q) (slot_low (state.tick * s.processors + q)))

  module _ (reports : ℕ → ℕ) where
    -- the slots of the state's tick are those of the true tick
    pub row_at_lem : (n : ℕ) → row_at slots ((state_at (play_of s slots) reports n).tick * s.processors) ≡ slot (plan_of s slots) n
    unfolding slot
    row_at_lem n = ap (λ (t : ℕ). row_at slots (t * s.processors)) (tick_at_lem y plan_playable reports n)

    pub always_possible : (n : ℕ) → impossible s.tasks (cycle s.tasks) (state_at (play_of s slots) reports n) ≡ false
    unfolding state_at
    always_possible n =
        is_possible s.tasks (cycle s.tasks) (state_at y reports n)
        (rw (tick_at_lem y plan_playable reports n) (mod-lt n facts.some_cycle)) (done_at_lem n) (ran_at n)
      where
        done_at_lem : (n : ℕ) → (state_at y reports n).done < 2 ^ s.tasks.count
        done_at_lem zero = pow_pos s.tasks.count
        done_at_lem (suc n) = done_low (tick_at y n (state_at y reports n) (reports n))

        ran_at : (n : ℕ) → (state_at y reports n).ran < 2 ^ s.tasks.count
        ran_at zero = pow_pos s.tasks.count
        ran_at (suc n) = ran_low (tick_at y n (state_at y reports n) (reports n))

    -- a call with an output of m bytes and no report bit at or above the task count is allowed
    pub allowed_at : (n report : ℕ) (out : List ℕ) → report < 2 ^ s.tasks.count → length out ≡ s.processors
        → Allowed s slots (state_at (play_of s slots) reports n) report out
    allowed_at n report out l e =
        record {
          is_sound = fits.is_sound;
          long = fits.long;
          wide = e;
          possible = always_possible n;
          in_range = no_overreport s.tasks report l;
          low = none_high (state_at y reports n) report;
        }

    -- one with the report of step n is that step
    pub step_at : (n : ℕ) (out : List ℕ) → Allowed s slots (state_at (play_of s slots) reports n) (reports n) out
        → (stepped_of s slots (state_at (play_of s slots) reports n) (reports n) out ≡ stepped (Ok tt) (state_at (play_of s slots) reports (suc n)))
        × (left_of s slots (state_at (play_of s slots) reports n) (reports n) out ≡ shown_at (play_of s slots) reports n)
    unfolding state_at shown_at
    step_at n out a =
        let w = none_refuses s slots (state_at y reports n) (reports n) out a in
        (w.0 ∙ ap (λ (r : ℕ → ℕ). stepped (Ok tt) (step_of (tick_by n r))) (row_at_lem n), w.1 ∙ ap (λ (r : ℕ → ℕ). row_of (tick_by n r)) (row_at_lem n))
      where
        tick_by : ℕ → (ℕ → ℕ) → OneTick
        tick_by n r =
            record {
              tasks = s.tasks;
              processors = s.processors;
              cycle = cycle s.tasks;
              row = r;
              place = (state_at y reports n).tick * s.processors;
              state = state_at y reports n;
              report = reports n;
            }

    pub step_goes_on : (n : ℕ) → reports n < 2 ^ s.tasks.count → GoesOn s slots reports n
    step_goes_on n l =
        record {
          possible = always_possible n;
          taken = λ out e. (step_at n out (allowed_at n (reports n) out l e)).0;
          left = λ out e. (step_at n out (allowed_at n (reports n) out l e)).1;
        }
