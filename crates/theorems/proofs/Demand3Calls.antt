-- Calls of which some are refused: the others make a run.
use Rattle.std.proofs.Math.Path.{◌≡◌, refl, ap, ap₂, fun_ext}
use Rattle.std.proofs.Common.{sym, ◌∙◌, pow_pos}
use Rattle.std.specs.Prelude.{Bool, false, get_or, length}
use Rattle.std.proofs.Math.Bool.{true}
use mathlib.Core.List.{List, [], ◌∷◌, map}
use Prim.Native.Nat.{ℕ, zero, suc, ◌+◌, ◌^◌, ◌<◌}
use Rattle.std.proofs.Math.Nat.{add-zero}
use native.Mathlib.Omega.{arith}
use Rattle.std.proofs.Math.Dec.{eqb}
use borrow.Author.Tests.{eqb-true, eqb-false, eq-eqb, ltb-true, lt-ltb}
use Rattle.vocabulary.specs.Test.{pick}
use Rattle.vocabulary.proofs.Test.{both, same_test}
use Rattle.vocabulary.specs.Table.{table}
use Rattle.kinds.specs.Tasks.{Set}
use Rattle.dispatcher.specs.declared.State.{State}
use Rattle.dispatcher.specs.declared.Stepped.{Stepped}
use Rattle.dispatcher.specs.Answers.{number_of}
use Rattle.dispatcher.specs.Refusals.{first_state, stepped_of}
use Rattle.dispatcher.specs.Runs.{Play, play_of, state_at, shown_at}
use Rattle.dispatcher.proofs.StepFacts.{Allowed, none_refuses, taken_allowed, refused_step, number_refused, report_low}
use Rattle.theorems.specs.Demand3Terms.{Caller, Rows, with_row, play_calls, taken_calls, right_of}
use Rattle.theorems.specs.Demand3Terms.{Fits, Call, is_taken, step_calls, is_right, right_calls, reports_of, run_of}
use Rattle.theorems.proofs.Demand3Plans.{allowed_at, step_at}

-- ==== Of any calls: a refused call hands back the state that came in.
module _ {S C : Type 0} (m : Caller S C) (stays : (s : S) (c : C) → m.takes s c ≡ false → m.next s c ≡ s) where
  -- what one call more does to the calls taken and to what is played
  taken_more : (s : S) (c : C) (cs : List C) → m.takes s c ≡ true → taken_calls m s (c ∷ cs) ≡ c ∷ taken_calls m (m.next s c) cs
  unfolding taken_calls
  taken_more s c cs e = rw e

  taken_same : (s : S) (c : C) (cs : List C) → m.takes s c ≡ false → taken_calls m s (c ∷ cs) ≡ taken_calls m (m.next s c) cs
  unfolding taken_calls
  taken_same s c cs e = rw e

  played_more : (s : S) (c : C) (cs : List C) → m.takes s c ≡ true → play_calls m s (c ∷ cs) ≡ with_row true (m.row s c) (play_calls m (m.next s c) cs)
  unfolding play_calls
  played_more s c cs e = rw e

  played_same : (s : S) (c : C) (cs : List C) → m.takes s c ≡ false → play_calls m s (c ∷ cs) ≡ play_calls m (m.next s c) cs
  unfolding play_calls with_row
  played_same s c cs e = rw e

  -- a list of calls plays as the list without the refused ones
  pub without_refused : (s : S) (cs : List C) → play_calls m s (taken_calls m s cs) ≡ play_calls m s cs
  unfolding taken_calls
  without_refused s [] = refl
  without_refused s (c ∷ cs) = go (m.takes s c) refl (without_refused (m.next s c) cs)
    where
      after : S
      after = m.next s c

      rest : List C
      rest = taken_calls m after cs

      go : (b : Bool) → m.takes s c ≡ b → play_calls m after rest ≡ play_calls m after cs → play_calls m s (taken_calls m s (c ∷ cs)) ≡ play_calls m s (c ∷ cs)
      go true e ih =
          ap (play_calls m s) (taken_more s c cs e)
          ∙ played_more s c rest e
          ∙ ap (with_row true (m.row s c)) ih
          ∙ sym (played_more s c cs e)
      go false e ih =
          ap (play_calls m s) (taken_same s c cs e)
          ∙ ap (λ (x : S). play_calls m x rest) (sym (stays s c e))
          ∙ ih
          ∙ sym (played_same s c cs e)

  -- ==== A run of such calls: in its states a call is taken exactly where a test of the call alone says so, and the n-th one taken leads on to the next state.
  module _ {K : Type 0} (right : C → Bool) (key : C → K) (keys : ℕ → K) (none : K) (states : ℕ → S) (rows : ℕ → List ℕ)
      (takes_right : (n : ℕ) (c : C) → m.takes (states n) c ≡ right c)
      (leads_on : (n : ℕ) (c : C) → keys n ≡ key c → right c ≡ true → (m.next (states n) c ≡ states (suc n)) × (m.row (states n) c ≡ rows n)) where
    -- what the steps from n on show, and the state after them
    abbrev played_from : ℕ → ℕ → Rows S
    played_from n len = record { rows = table (λ k. rows (n + k)) len; state = states (n + len) }

    from_none : (n : ℕ) → ◌≡◌ {A = Rows S} (record { rows = []; state = states n }) (played_from n 0)
    unfolding table
    from_none n = rw add-zero

    from_more : (n len : ℕ) → with_row true (rows n) (played_from (suc n) len) ≡ played_from n (suc len)
    unfolding table with_row
    from_more n len =
        let a : n + 0 ≡ n = omega arith in
        let b : suc n + len ≡ n + suc len = omega arith in
        let c : ◌≡◌ {A = ℕ → List ℕ} (λ k. rows (suc n + k)) (λ k. rows (n + suc k))
        = fun_ext (λ k. ap rows (let g : suc n + k ≡ n + suc k = omega arith in g)) in
        ap₂ (λ (f : ℕ → List ℕ) (x : ℕ). with_row true (rows n) (record { rows = table f len; state = states x })) c b
        ∙ ap (λ (x : ℕ). with_row true (rows x) (record { rows = table (λ k. rows (n + suc k)) len; state = states (n + suc len) })) (sym a)

    -- the keys of the calls that are right, in order
    abbrev keys_of : List C → ℕ → K
    keys_of cs k = get_or (map key (right_of right cs)) k none

    -- so from step n on the calls that are taken are the right ones, and they play as the run with their keys
    pub record Follows (n : ℕ) (s : S) (cs : List C) : Type 0 where
      pub taken : taken_calls m s cs ≡ right_of right cs
      pub played : play_calls m s cs ≡ played_from n (length (right_of right cs))

    pub follows : (cs : List C) (n : ℕ) (s : S) → s ≡ states n → ((k : ℕ) → keys (n + k) ≡ keys_of cs k) → Follows n s cs
    unfolding taken_calls play_calls right_of
    follows [] n s e h = record { taken = refl; played = ap (λ (x : S). record { rows = []; state = x }) e ∙ from_none n }
    follows (c ∷ cs) n s e h = go (right c) refl (follows cs (suc n) after) (follows cs n after)
      where
        after : S
        after = m.next s c

        rest : List C
        rest = right_of right cs

        went : (b : Bool) → right c ≡ b → m.takes s c ≡ b
        went b r = ap (λ (x : S). m.takes x c) e ∙ takes_right n c ∙ r

        go : (b : Bool) → right c ≡ b
            → (after ≡ states (suc n) → ((k : ℕ) → keys (suc n + k) ≡ get_or (map key rest) k none) → Follows (suc n) after cs)
            → (after ≡ states n → ((k : ℕ) → keys (n + k) ≡ get_or (map key rest) k none) → Follows n after cs)
            → Follows n s (c ∷ cs)
        go true r on same =
            let a : right_of right (c ∷ cs) ≡ c ∷ rest = rw r in
            let first : keys n ≡ key c
            = ap keys (let g : n ≡ n + 0 = omega arith in g) ∙ h 0 ∙ ap (λ (l : List C). get_or (map key l) 0 none) a in
            let later : (k : ℕ) → keys (suc n + k) ≡ get_or (map key rest) k none
            = λ k. ap keys (let g : suc n + k ≡ n + suc k = omega arith in g) ∙ h (suc k) ∙ ap (λ (l : List C). get_or (map key l) (suc k) none) a in
            let w = leads_on n c first r in
            let f = on (ap (λ (x : S). m.next x c) e ∙ w.0) later in
            record {
              taken = taken_more s c cs (went true r) ∙ ap (λ (l : List C). c ∷ l) f.taken ∙ sym a;
              played =
                  played_more s c cs (went true r)
                  ∙ ap₂ (with_row true) (ap (λ (x : S). m.row x c) e ∙ w.1) f.played
                  ∙ from_more n (length rest)
                  ∙ ap (λ (l : List C). played_from n (length l)) (sym a);
            }
        go false r on same =
            let a : right_of right (c ∷ cs) ≡ rest = rw r in
            let f = same (stays s c (went false r) ∙ e) (λ k. h k ∙ ap (λ (l : List C). get_or (map key l) k none) a) in
            record {
              taken = taken_same s c cs (went false r) ∙ f.taken ∙ sym a;
              played = played_same s c cs (went false r) ∙ f.played ∙ ap (λ (l : List C). played_from n (length l)) (sym a);
            }

-- ==== Steps by value are such calls.
pub step_stays : (s : Set) (slots : List ℕ) (state : State) (c : Call) → (step_calls s slots).takes state c ≡ false → (step_calls s slots).next state c ≡ state
unfolding is_taken
step_stays s slots state c e =
    let r : Stepped = stepped_of s slots state c.report c.output in
    (refused_step s slots state c.report c.output (number_refused r.answer (eqb-false (number_of r.answer) 0 e))).0

module _ (s : Set) (slots : List ℕ) (fits : Fits s slots) (reports : ℕ → ℕ) where
  abbrev y : Play
  y = play_of s slots

  -- in the state before step n a call is taken exactly where it is right
  pub right_allowed : (n : ℕ) (c : Call) → is_right s c ≡ true → Allowed s slots (state_at (play_of s slots) reports n) c.report c.output
  unfolding is_right
  right_allowed n c e =
      let w = both {a = eqb (length c.output) s.processors} e in
      allowed_at s slots fits reports n c.report c.output
      (ltb-true c.report (2 ^ s.tasks.count) w.1) (eqb-true (length c.output) s.processors w.0)

  allowed_right : (n : ℕ) (c : Call) → Allowed s slots (state_at y reports n) c.report c.output → is_right s c ≡ true
  unfolding is_right
  allowed_right n c a =
      rw (eq-eqb (length c.output) s.processors a.wide, lt-ltb c.report (2 ^ s.tasks.count) (report_low s.tasks c.report a.in_range))

  takes_right : (n : ℕ) (c : Call) → (step_calls s slots).takes (state_at y reports n) c ≡ is_right s c
  unfolding is_taken
  takes_right n c =
      same_test
      (λ e. allowed_right n c
      (taken_allowed s slots (state_at y reports n) c.report c.output
      (eqb-true (number_of (stepped_of s slots (state_at y reports n) c.report c.output).answer) 0 e)))
      (λ e. ap (λ (x : Stepped). eqb (number_of x.answer) 0)
      (none_refuses s slots (state_at y reports n) c.report c.output (right_allowed n c e)).0)

  -- and one with the report of step n is that step
  step_is : (n : ℕ) (c : Call) → reports n ≡ c.report → is_right s c ≡ true
      → ((step_calls s slots).next (state_at y reports n) c ≡ state_at y reports (suc n))
      × ((step_calls s slots).row (state_at y reports n) c ≡ shown_at y reports n)
  step_is n c e r =
      let w = step_at s slots fits reports n c.output (rw e (right_allowed n c r)) in
      (ap (λ (x : Stepped). x.state) (rw e at w.0), rw e at w.1)

-- ---- from the first step on
module _ (s : Set) (slots : List ℕ) (fits : Fits s slots) (cs : List Call) where
  abbrev told : ℕ → ℕ
  told = reports_of (right_calls s cs)

  abbrev z : Play
  z = play_of s slots

  abbrev FromStart : Type 0
  FromStart =
      Follows (step_calls s slots) (step_stays s slots) (is_right s) (λ c. c.report) told 0 (state_at z told) (shown_at z told)
      (takes_right s slots fits told) (step_is s slots fits told) 0 first_state cs

  from_start : FromStart
  unfolding state_at reports_of
  from_start =
      follows (step_calls s slots) (step_stays s slots) (is_right s) (λ c. c.report) told 0 (state_at z told) (shown_at z told)
      (takes_right s slots fits told) (step_is s slots fits told) cs 0 first_state refl (λ k. ap told (let g : 0 + k ≡ k = omega arith in g))

  pub taken_are_right : taken_calls (step_calls s slots) first_state cs ≡ right_calls s cs
  taken_are_right = from_start.taken

  pub calls_run : play_calls (step_calls s slots) first_state cs ≡ run_of (play_of s slots) (reports_of (right_calls s cs)) (length (right_calls s cs))
  calls_run =
      let n : ℕ = length (right_calls s cs) in
      let a : 0 + n ≡ n = omega arith in
      let b : ◌≡◌ {A = ℕ → List ℕ} (λ k. shown_at z told (0 + k)) (shown_at z told) =
      fun_ext (λ k. ap (shown_at z told) (let g : 0 + k ≡ k = omega arith in g)) in
      from_start.played
      ∙ ap₂ (λ (f : ℕ → List ℕ) (x : ℕ). record { rows = table f n; state = state_at z told x }) b a

report_of : (s : Set) (c : Call) → is_right s c ≡ true → c.report < 2 ^ s.tasks.count
unfolding is_right
report_of s c e = ltb-true c.report (2 ^ s.tasks.count) (both {a = eqb (length c.output) s.processors} e).1

-- no report of a right call has a bit at or above the task count
pub right_low : (s : Set) (cs : List Call) (k : ℕ) → reports_of (right_calls s cs) k < 2 ^ s.tasks.count
unfolding right_of reports_of
right_low s [] k = pow_pos s.tasks.count
right_low s (c ∷ cs) k = go (is_right s c) refl k (right_low s cs)
  where
    go : (b : Bool) → is_right s c ≡ b → (k : ℕ) → ((j : ℕ) → reports_of (right_calls s cs) j < 2 ^ s.tasks.count)
        → reports_of (pick b (c ∷ right_calls s cs) (right_calls s cs)) k < 2 ^ s.tasks.count
    go true e zero ih = report_of s c e
    go true e (suc j) ih = ih j
    go false e j ih = ih j
