-- Laws of the definitions in specs/Least.antt.
use Rattle.std.specs.Prelude.{◌≡◌, refl, Bool, true, false, not, ◌&&◌, ◌||◌, ◌⊎◌, ℕ, zero, suc, ◌+◌, ◌≤◌, ◌<◌, Some, None}
use Rattle.std.proofs.Common.{sym, ap, ◌∙◌, inl, inr, ⊎_elim, eq-or-lt_of_le, le_of_suc-le-suc, arith, below_none, below_more, ltb-true, ltb-false, lt-ltb, le-ltb}
use Rattle.std.proofs.lemmas.Bool.{not-true, not-false}
use Rattle.vocabulary.specs.Test.{pick}
use Rattle.vocabulary.proofs.Test.{clash, lt_or_le}
use Rattle.vocabulary.specs.Least.{past, least, Least, some, lowest, Seeking, all, Passing, greatest}

up : (f : ℕ → Bool) (n r : ℕ) → Least f n r → (b : Bool) → f r ≡ b → Least f (suc n) (past b r)
up f n r p true e = record { within = omega arith; before = p.before; found = λ h. e }
up f n r p false e =
    record {
      within = omega (arith, p.within);
      before = λ k h. ⊎_elim (λ q. ap f q ∙ e) (p.before k) (eq-or-lt_of_le (le_of_suc-le-suc h));
      found = λ h. clash (p.found (omega arith)) e;
    }

pub least_is : (f : ℕ → Bool) (n : ℕ) → Least f n (least f n)
unfolding least
least_is f zero = record { within = omega arith; before = λ k h. absurd (omega arith); found = λ h. absurd (omega arith) }
least_is f (suc n) = up f n (least f n) (least_is f n) (f (least f n)) refl

pub least_only : (f : ℕ → Bool) (n r : ℕ) → Least f n r → r ≡ least f n
least_only f n r p = by_cases (lt_or_le r s) (lt_or_le s r)
  where
    s : ℕ
    s = least f n

    q : Least f n s
    q = least_is f n

    by_cases : (r < s) ⊎ (s ≤ r) → (s < r) ⊎ (r ≤ s) → r ≡ s
    by_cases (inl h) g = clash (p.found (omega (arith, q.within))) (q.before r h)
    by_cases (inr h) (inl g) = clash (q.found (omega (arith, p.within))) (p.before s g)
    by_cases (inr h) (inr g) = omega arith

pub some_yes : (f : ℕ → Bool) (n k : ℕ) → k < n → f k ≡ true → some f n ≡ true
some_yes f n k l e = by_cases (lt_or_le (least f n) n)
  where
    by_cases : (least f n < n) ⊎ (n ≤ least f n) → some f n ≡ true
    by_cases (inl h) = lt-ltb _ _ h
    by_cases (inr h) = clash e ((least_is f n).before k (omega arith))

pub some_not : (f : ℕ → Bool) (n : ℕ) → some f n ≡ false → (k : ℕ) → k < n → f k ≡ false
some_not f n e k l = (least_is f n).before k (omega (arith, ltb-false (least f n) n e))

pub some_at : (f : ℕ → Bool) (n : ℕ) → some f n ≡ true → (least f n < n) × (f (least f n) ≡ true)
some_at f n e = let h : least f n < n = ltb-true _ _ e in (h, (least_is f n).found h)

pub none : (f : ℕ → Bool) (n : ℕ) → ((k : ℕ) → k < n → f k ≡ false) → some f n ≡ false
none f n h =
    le-ltb (least f n) n
    (omega (arith, least_only f n n (record { within = omega arith; before = h; found = λ l. absurd (omega arith) })))

pub seek : (f : ℕ → Bool) (n : ℕ) → Seeking f n 0
seek f n = record { within = omega arith; before = below_none (λ (k : ℕ). f k ≡ false) }

pub on : (f : ℕ → Bool) (n i : ℕ) → Seeking f n i → i < n → f i ≡ false → Seeking f n (i + 1)
on f n i s l e = record { within = omega arith; before = below_more (λ (k : ℕ). f k ≡ false) i s.before e }

pub hit : (f : ℕ → Bool) (n i : ℕ) → Seeking f n i → f i ≡ true → i ≡ least f n
hit f n i s e = least_only f n i (record { within = s.within; before = s.before; found = λ h. e })

pub miss : (f : ℕ → Bool) (n i : ℕ) → Seeking f n i → n ≤ i → i ≡ least f n
miss f n i s l = least_only f n i (record { within = s.within; before = s.before; found = λ h. absurd (omega arith) })

-- the same for the number as an option: a search that finds it, and one that comes to the end
pub found : (f : ℕ → Bool) (n i : ℕ) → Seeking f n i → i < n → f i ≡ true → Some i ≡ lowest f n
unfolding lowest
found f n i s l e = let z : i ≡ least f n = hit f n i s e in rw (some_yes f n i l e, ← z)

pub nowhere : (f : ℕ → Bool) (n i : ℕ) → Seeking f n i → n ≤ i → None ≡ lowest f n
unfolding lowest
nowhere f n i s l = rw (none f n λ k h. s.before k (omega arith))

-- by the number itself: it is n where there is none
pub lowest_some : (f : ℕ → Bool) (n i : ℕ) → i ≡ least f n → i < n → Some i ≡ lowest f n
unfolding lowest
lowest_some f n i e l = rw (← e, lt-ltb i n l)

pub lowest_none : (f : ℕ → Bool) (n i : ℕ) → i ≡ least f n → n ≤ i → None ≡ lowest f n
unfolding lowest
lowest_none f n i e l = rw (← e, le-ltb i n l)

-- and back: what an answer says of the number
pub some_least : (f : ℕ → Bool) (n i : ℕ) → Some i ≡ lowest f n → (i ≡ least f n) × (i < n) × (f i ≡ true)
unfolding lowest
some_least f n i e = by (some f n) refl e
  where
    by : (b : Bool) → some f n ≡ b → Some i ≡ pick b (Some (least f n)) None → (i ≡ least f n) × (i < n) × (f i ≡ true)
    by true p q =
        let z : i ≡ least f n = cc q in
        let w = some_at f n p in
        (z, rw z w.0, rw z w.1)
    by false p q = let z : ◌≡◌ {A = ℕ} 0 1 = cc q in absurd (omega arith)

pub none_least : (f : ℕ → Bool) (n : ℕ) → None ≡ lowest f n → (least f n ≡ n) × (some f n ≡ false)
unfolding lowest
none_least f n e = by (some f n) refl e
  where
    by : (b : Bool) → some f n ≡ b → None ≡ pick b (Some (least f n)) None → (least f n ≡ n) × (some f n ≡ false)
    by true p q = let z : ◌≡◌ {A = ℕ} 0 1 = cc q in absurd (omega arith)
    by false p q = let w = (least_is f n).within in let h : n ≤ least f n = ltb-false (least f n) n p in (omega arith, p)

-- the test `some`, from a number that is known to be the least
pub some_lt : (f : ℕ → Bool) (n r : ℕ) → r ≡ least f n → r < n → some f n ≡ true
some_lt f n r e l = lt-ltb (least f n) n (omega arith)

pub some_ge : (f : ℕ → Bool) (n r : ℕ) → r ≡ least f n → n ≤ r → some f n ≡ false
some_ge f n r e l = le-ltb (least f n) n (omega arith)

pub some_none : (f : ℕ → Bool) → some f 0 ≡ false
some_none f = none f 0 (λ k l. absurd (omega arith))

-- one place more
pub some_more : (f : ℕ → Bool) (n : ℕ) → some f (n + 1) ≡ (some f n || f n)
some_more f n = go (some f n) refl (f n) refl
  where
    go : (a : Bool) → some f n ≡ a → (b : Bool) → f n ≡ b → some f (n + 1) ≡ (a || b)
    go true p b q = some_yes f (n + 1) (least f n) (omega (arith, (some_at f n p).0)) (some_at f n p).1
    go false p true q = some_yes f (n + 1) n (omega arith) q
    go false p false q = none f (n + 1) (below_more (λ (k : ℕ). f k ≡ false) n (some_not f n p) q)

-- tests that agree below n
pub some_same : (f g : ℕ → Bool) (n : ℕ) → ((k : ℕ) → k < n → f k ≡ g k) → some f n ≡ some g n
some_same f g n h = go (some f n) refl
  where
    go : (a : Bool) → some f n ≡ a → a ≡ some g n
    go true p = let w = some_at f n p in sym (some_yes g n (least f n) w.0 (sym (h (least f n) w.0) ∙ w.1))
    go false p = sym (none g n (λ k l. sym (h k l) ∙ some_not f n p k l))

-- a test that does not depend on the place
pub some_and : (b : Bool) (f : ℕ → Bool) (n : ℕ) → some (λ k. b && f k) n ≡ (b && some f n)
some_and true f n = refl
some_and false f n = none (λ k. false) n (λ k l. refl)

pub least_same : (f g : ℕ → Bool) (n : ℕ) → ((k : ℕ) → k < n → f k ≡ g k) → least f n ≡ least g n
least_same f g n h =
    let l = least_is f n in
    least_only g n (least f n)
    (record {
      within = l.within;
      before = λ k a. sym (h k (omega (arith, l.within))) ∙ l.before k a;
      found = λ a. sym (h (least f n) a) ∙ l.found a;
    })

pub all_at : (f : ℕ → Bool) (n : ℕ) → all f n ≡ true → (k : ℕ) → k < n → f k ≡ true
unfolding all
all_at f n e k l = not-false _ (some_not (λ k. not (f k)) n (not-true _ e) k l)

pub all_from : (f : ℕ → Bool) (n : ℕ) → ((k : ℕ) → k < n → f k ≡ true) → all f n ≡ true
unfolding all
all_from f n h = ap not (none (λ k. not (f k)) n (λ k l. ap not (h k l)))

pub all_fails : (f : ℕ → Bool) (n k : ℕ) → k < n → f k ≡ false → all f n ≡ false
unfolding all
all_fails f n k l e = ap not (some_yes (λ k. not (f k)) n k l (ap not e))

pub all_same : (f g : ℕ → Bool) (n : ℕ) → ((k : ℕ) → k < n → f k ≡ g k) → all f n ≡ all g n
unfolding all
all_same f g n h = ap not (some_same (λ k. not (f k)) (λ k. not (g k)) n (λ k l. ap not (h k l)))

pub pass_from : (f : ℕ → Bool) (n : ℕ) → Passing f n 0
pass_from f n = record { within = omega arith; before = below_none (λ (k : ℕ). f k ≡ true) }

pub pass_on : (f : ℕ → Bool) (n i : ℕ) → Passing f n i → i < n → f i ≡ true → Passing f n (i + 1)
pass_on f n i p l e = record { within = omega arith; before = below_more (λ (k : ℕ). f k ≡ true) i p.before e }

pub pass_end : (f : ℕ → Bool) (n i : ℕ) → Passing f n i → n ≤ i → all f n ≡ true
pass_end f n i p l = all_from f n (λ k h. p.before k (omega arith))

pub greatest_is : (f : ℕ → Bool) (n k : ℕ) → k < n → f k ≡ true → (greatest f n < n) × (f (greatest f n) ≡ true) × (k ≤ greatest f n)
unfolding greatest
greatest_is f zero k l e = absurd (omega arith)
greatest_is f (suc n) k l e = go (f n) refl (greatest_is f n k) (eq-or-lt_of_le (le_of_suc-le-suc l))
  where
    go : (b : Bool) → f n ≡ b → (k < n → f k ≡ true → (greatest f n < n) × (f (greatest f n) ≡ true) × (k ≤ greatest f n)) → (k ≡ n) ⊎ (k < n)
        → (pick b n (greatest f n) < suc n) × (f (pick b n (greatest f n)) ≡ true) × (k ≤ pick b n (greatest f n))
    go true q ih h = (omega arith, q, omega arith)
    go false q ih (inl h) = clash (sym (ap f h) ∙ e) q
    go false q ih (inr h) = let w = ih h e in (omega (arith, w.0), w.1, w.2)

pub greatest_none : (f : ℕ → Bool) (n : ℕ) → ((k : ℕ) → k < n → f k ≡ false) → greatest f n ≡ 0
unfolding greatest
greatest_none f zero h = refl
greatest_none f (suc n) h = rw (h n (omega arith)) (greatest_none f n (λ k l. h k (omega arith)))
