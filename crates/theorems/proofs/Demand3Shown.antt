-- Demand 3: where a tick shows its tasks.
use Rattle.std.specs.Prelude.{◌≡◌, refl, Bool, true, false, ◌&&◌, ◌||◌, not, List, ◌⊎◌, ℕ, ◌+◌, ◌*◌, ◌%◌, ◌<◌, ◌≤◌, eqb}
use Rattle.std.proofs.Common.{sym, ap, ◌∙◌, inl, inr, arith}
use borrow.Author.Tests.{eqb-true}
use Rattle.vocabulary.proofs.Test.{both, lt_or_le, and_true, and_false}
use Rattle.vocabulary.specs.Least.{some}
use Rattle.vocabulary.proofs.Least.{some_yes}
use Rattle.vocabulary.proofs.Table.{get_or_table}
use Rattle.vocabulary.specs.Bits.{has}
use Rattle.kinds.specs.Tasks.{Set}
use Rattle.kinds.specs.Plans.{plan_of, slot, shows}
use Rattle.kinds.specs.Valid.{Valid}
use Rattle.dispatcher.specs.Steps.{OneTick, done_of, asleep, byte_of, row_of, stands_at}
use Rattle.dispatcher.specs.Runs.{Play, play_of, tick_at, state_at, shown_at, gives}
use Rattle.dispatcher.proofs.StepFacts.{byte_is, row_shows}
use Rattle.theorems.specs.Demand3Terms.{names, planned, Fits}
use Rattle.theorems.proofs.Demand3Plans.{plan_playable, slot_low}
use Rattle.theorems.proofs.Demand3.{only_planned}

-- one of several that pass
one_passes : (b : Bool) (f : ℕ → Bool) (n q : ℕ) → q < n → (b && f q) ≡ ((b && some f n) && f q)
one_passes b f n q l = go (f q) refl
  where
    go : (c : Bool) → f q ≡ c → (b && c) ≡ ((b && some f n) && c)
    go true e = rw (some_yes f n q l e) (sym (and_true (b && true)))
    go false e = and_false b ∙ sym (and_false (b && some f n))

-- ==== Processor q shows task i in tick n exactly if the run gives the task this tick and the slot that q has then is the task's: nowhere else.
pub shown_where_named : (y : Play) (reports : ℕ → ℕ) (n i q : ℕ) → q < y.processors
    → stands_at (shown_at y reports n) i q ≡ (gives y reports i n && names y i n q)
unfolding shown_at gives row_of stands_at names
shown_where_named y reports n i q l =
    let k : OneTick = tick_at y n (state_at y reports n) (reports n) in
    let f : ℕ → ℕ = λ q. byte_of y.tasks k.state (done_of k) (y.rows n q) in
    let held : Bool = asleep y.tasks k.state i || has (done_of k) i in
    ap (λ (x : ℕ). eqb x (i + 1)) (get_or_table f y.processors q 0 l)
    ∙ byte_is y.tasks k.state (done_of k) (y.rows n q) i
    ∙ one_passes (not held) (λ q. eqb (y.rows n q) (i + 1)) y.processors q l
    ∙ ap (λ (b : Bool). b && eqb (y.rows n q) (i + 1)) (sym (row_shows k i))

-- ==== In no tick is a task shown on two processors, where the plan keeps rules 10, 11 and 12 and is valid, as an accepted one does and is.
module _ (s : Set) (slots : List ℕ) (fits : Fits s slots) (valid : Valid s (plan_of s slots)) (reports : ℕ → ℕ) (n i : ℕ) where
  abbrev y : Play
  y = play_of s slots

  abbrev Shows : ℕ → Type 0
  Shows q = stands_at (shown_at y reports n) i q ≡ true

  named : (q : ℕ) → q < s.processors → Shows q → (gives y reports i n ≡ true) × (names y i n q ≡ true)
  named q l e = both (sym (shown_where_named y reports n i q l) ∙ e)

  task_low : (q : ℕ) → names y i n q ≡ true → i < s.tasks.count
  unfolding names slot
  task_low q e = omega (arith, eqb-true (slot (plan_of s slots) n q) (i + 1) e, slot_low s slots fits (n % y.cycle * s.processors + q))

  apart : (q r : ℕ) → q < r → r < s.processors → Shows q → Shows r → ⊥
  unfolding planned names shows
  apart q r a b c d =
      let v = named q (omega arith) c in
      let w = named r b d in
      let l : i < s.tasks.count = task_low q v.1 in
      let p = only_planned y (plan_playable s slots fits) i l reports n v.0 in
      valid.alone.each i n q r l (both p).0 a b v.1 w.1

  pub shown_once : (q r : ℕ) → q < s.processors → r < s.processors
      → stands_at (shown_at (play_of s slots) reports n) i q ≡ true
      → stands_at (shown_at (play_of s slots) reports n) i r ≡ true
      → q ≡ r
  shown_once q r a b c d = go (lt_or_le q r) (lt_or_le r q)
    where
      go : (q < r) ⊎ (r ≤ q) → (r < q) ⊎ (q ≤ r) → q ≡ r
      go (inl h) g = absurd (apart q r h b c d)
      go (inr h) (inl g) = absurd (apart r q g a d c)
      go (inr h) (inr g) = omega arith
