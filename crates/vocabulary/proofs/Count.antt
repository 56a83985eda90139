-- Laws of the definitions in specs/Count.antt.
use Rattle.std.specs.Prelude.{◌≡◌, refl, Bool, true, false, ◌⊎◌, ℕ, zero, suc, ◌+◌, ◌-◌, ◌≤◌, ◌<◌, min}
use Rattle.std.proofs.Common.{sym, ap, ap₂, ◌∙◌, inl, inr, ⊎_elim, add-zero, add-suc, add_assoc, eq-or-lt_of_le, le_of_suc-le-suc, add-one, arith}
use Rattle.vocabulary.specs.Test.{bit}
use Rattle.vocabulary.proofs.Test.{bit_le, bit_mono, decide}
use Rattle.vocabulary.specs.Count.{count, Counting, Tick}

pub count_zero : (f : ℕ → Bool) (a : ℕ) → count f a 0 ≡ 0
unfolding count
count_zero f a = refl

-- one tick more: what a loop's turn does
pub count_more : (f : ℕ → Bool) (a i : ℕ) → count f a (i + 1) ≡ count f a i + bit (f (a + i))
unfolding count
count_more f a i = rw add-one

pub count_le : (f : ℕ → Bool) (a n : ℕ) → count f a n ≤ n
unfolding count
count_le f a zero = omega arith
count_le f a (suc n) = omega (arith, count_le f a n, bit_le (f (a + n)))

-- two tests that agree on the window
pub count_same : (f g : ℕ → Bool) (a b n : ℕ) → ((i : ℕ) → i < n → f (a + i) ≡ g (b + i)) → count f a n ≡ count g b n
unfolding count
count_same f g a b zero h = refl
count_same f g a b (suc n) h = ap₂ ◌+◌ (count_same f g a b n (λ i l. h i (omega arith))) (ap bit (h n (omega arith)))

-- a window in two parts
pub count_split : (f : ℕ → Bool) (a m n : ℕ) → count f a (m + n) ≡ count f a m + count f (a + m) n
unfolding count
count_split f a m zero = rw add-zero (omega arith)
count_split f a m (suc n) = rw (add-suc, add_assoc a m n, count_split f a m n) (omega arith)

pub count_from_lem : (f : ℕ → Bool) (a n : ℕ) → Counting f a n 0 0
count_from_lem f a n = record { within = omega arith; is = sym (count_zero f a); few = omega arith }

pub count_hit : (f : ℕ → Bool) (a n i k k' : ℕ) → Counting f a n i k → i < n → f (a + i) ≡ true → k' ≡ k + 1 → Counting f a n (i + 1) k'
count_hit f a n i k k' c l e q =
    record { within = omega arith; is = omega (arith, c.is, count_more f a i, ap bit e); few = omega (arith, c.few) }

pub count_miss : (f : ℕ → Bool) (a n i k k' : ℕ) → Counting f a n i k → i < n → f (a + i) ≡ false → k' ≡ k → Counting f a n (i + 1) k'
count_miss f a n i k k' c l e q =
    record { within = omega arith; is = omega (arith, c.is, count_more f a i, ap bit e); few = omega (arith, c.few) }

pub counted : (f : ℕ → Bool) (a n i k : ℕ) → Counting f a n i k → n ≤ i → k ≡ count f a n
counted f a n i k c l = c.is ∙ ap (count f a) (let e : i ≡ n = omega (arith, c.within) in e)

-- a test that passes no more often
pub count_mono : (f g : ℕ → Bool) (a n : ℕ) → ((i : ℕ) → i < n → f (a + i) ≡ true → g (a + i) ≡ true) → count f a n ≤ count g a n
unfolding count
count_mono f g a zero h = omega arith
count_mono f g a (suc n) h =
    omega (arith, count_mono f g a n (λ i l. h i (omega arith)), bit_mono (f (a + n)) (g (a + n)) (h n (omega arith)))

pub count_none : (f : ℕ → Bool) (a n : ℕ) → ((i : ℕ) → i < n → f (a + i) ≡ false) → count f a n ≡ 0
unfolding count
count_none f a zero h = refl
count_none f a (suc n) h = rw (h n (omega arith), count_none f a n (λ i l. h i (omega arith)))

pub count_pos : (f : ℕ → Bool) (n e : ℕ) → e < n → f e ≡ true → 0 < count f 0 n
unfolding count
count_pos f zero e l h = absurd (omega arith)
count_pos f (suc n) e l h = go (eq-or-lt_of_le (le_of_suc-le-suc l)) (count_pos f n e)
  where
    go : (e ≡ n) ⊎ (e < n) → (e < n → f e ≡ true → 0 < count f 0 n) → 0 < count f 0 n + bit (f (0 + n))
    go (inl q) r = omega (arith, ap bit (let g : f (0 + n) ≡ true = ap f (let z : 0 + n ≡ e = omega arith in z) ∙ h in g))
    go (inr q) r = omega (arith, r q h)

pub count_one : (f : ℕ → Bool) (a n : ℕ) → 0 < count f a n → Tick f
unfolding count
count_one f a zero h = absurd (omega arith)
count_one f a (suc n) h =
    ⊎_elim (λ e. record { at = a + n; is = e }) (λ e. count_one f a n (omega (arith, ap bit e))) (decide (f (a + n)))

-- ticks that all lie from l up to u, without u, are no more than the room there
pub count_room : (f : ℕ → Bool) (l u a n : ℕ) → ((t : ℕ) → f t ≡ true → (l ≤ t) × (t < u)) → count f a n ≤ u - l
unfolding count
count_room f l u a n h = let g = go n in omega arith
  where
    go : (n : ℕ) → count f a n ≤ min u (a + n) - l
    go zero = omega arith
    go (suc n) =
        let r = go n in
        ⊎_elim (λ e. let w = h (a + n) e in omega (arith, ap bit e)) (λ e. omega (arith, ap bit e)) (decide (f (a + n)))
