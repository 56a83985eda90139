-- Rule 12 by one bound of all slots.
use Rattle.std.specs.Prelude.{◌≡◌, refl, Bool, true, false, cond, not, List, [], ◌∷◌, ℕ, zero, suc, ◌≤◌, ltb, get_or, length, position, Some, None}
use Rattle.std.specs.List.{position_or_len}
use Rattle.std.proofs.Common.{⊎_elim, arith, le-ltb, ltb-false}
use Rattle.std.proofs.lemmas.Bool.{not-true, not-false}
use Rattle.std.proofs.lemmas.List.Sums.{prefix_len_passes, prefix_len_stops, prefix_len-le-length}
use Rattle.vocabulary.specs.Test.{pick}
use Rattle.vocabulary.proofs.Test.{lt_or_le}
use Rattle.vocabulary.specs.Least.{least, some, lowest}
use Rattle.vocabulary.proofs.Least.{some_not, least_only, nowhere}
use Rattle.slots.specs.High.{high}
use Rattle.slots.specs.Topped.{Topped}

-- Where a bound of all slots is at most n, none is high.
pub none_high : (slots : List ℕ) (n r : ℕ) → Topped slots (length slots) r → r ≤ n → None ≡ lowest (high slots n) (length slots)
unfolding high
none_high slots n r t l =
    nowhere (high slots n) (length slots) (length slots)
    (record { within = omega arith; before = λ k h. le-ltb n (get_or slots k 0) (omega (arith, t.each k h)) }) (omega arith)

-- The place that a search from the first slot on gives.
place_high : (slots : List ℕ) (n : ℕ) → position_or_len (λ v. ltb n v) slots ≡ least (high slots n) (length slots)
unfolding high
place_high slots n =
    least_only (high slots n) (length slots) (position_or_len (λ v. ltb n v) slots)
    (record {
      within = prefix_len-le-length (λ v. not (ltb n v)) slots;
      before = λ k h. not-true _ (prefix_len_passes (λ v. not (ltb n v)) slots k 0 h);
      found = λ h. not-false _ (prefix_len_stops (λ v. not (ltb n v)) slots 0 h);
    })

pub position_high : (slots : List ℕ) (n : ℕ) → position (λ v. ltb n v) slots ≡ lowest (high slots n) (length slots)
unfolding lowest
position_high slots n = rw (← place_high slots n) (by (ltb (position_or_len (λ v. ltb n v) slots) (length slots)))
  where
    by : (b : Bool) → cond b (Some (position_or_len (λ v. ltb n v) slots)) None ≡ pick b (Some (position_or_len (λ v. ltb n v) slots)) None
    by true = refl
    by false = refl

beyond : (xs : List ℕ) (i : ℕ) → length xs ≤ i → get_or xs i 0 ≡ 0
beyond [] i l = refl
beyond (x ∷ xs) zero l = absurd (omega arith)
beyond (x ∷ xs) (suc i) l = beyond xs i (omega arith)

-- Where no slot is high each is at most n; beyond the plan's end they read 0.
pub all_low : (slots : List ℕ) (n : ℕ) → some (high slots n) (length slots) ≡ false → (e : ℕ) → get_or slots e 0 ≤ n
unfolding high
all_low slots n h e =
    ⊎_elim (λ l. ltb-false n (get_or slots e 0) (some_not (high slots n) (length slots) h e l)) (λ l. omega (arith, beyond slots e l)) (lt_or_le e (length slots))
