-- Laws of the definitions in specs/Total.antt.
use Rattle.std.specs.Prelude.{◌≡◌, refl, ℕ, zero, suc, ◌+◌, ◌-◌, ◌≤◌, ◌<◌}
use Rattle.std.proofs.Common.{ap₂, add-zero, add-suc, add-one, arith}
use Rattle.vocabulary.specs.Total.{total}

pub total_none : (f : ℕ → ℕ) → total f 0 ≡ 0
unfolding total
total_none f = refl

pub total_suc : (f : ℕ → ℕ) (n : ℕ) → total f (suc n) ≡ total f n + f n
unfolding total
total_suc f n = refl

-- one more: what a loop's turn does
pub total_more : (f : ℕ → ℕ) (n : ℕ) → total f (n + 1) ≡ total f n + f n
unfolding total
total_more f n = rw add-one

pub total_same : (f g : ℕ → ℕ) (n : ℕ) → ((i : ℕ) → i < n → f i ≡ g i) → total f n ≡ total g n
unfolding total
total_same f g zero h = refl
total_same f g (suc n) h = ap₂ ◌+◌ (total_same f g n (λ i l. h i (omega arith))) (h n (omega arith))

pub total_mono : (f g : ℕ → ℕ) (n : ℕ) → ((i : ℕ) → i < n → f i ≤ g i) → total f n ≤ total g n
unfolding total
total_mono f g zero h = omega arith
total_mono f g (suc n) h = omega (arith, total_mono f g n (λ i l. h i (omega arith)), h n (omega arith))

pub total_add : (f g : ℕ → ℕ) (n : ℕ) → total (λ i. f i + g i) n ≡ total f n + total g n
unfolding total
total_add f g zero = refl
total_add f g (suc n) = omega (arith, total_add f g n)

pub total_zero : (n : ℕ) → total (λ i. 0) n ≡ 0
unfolding total
total_zero zero = refl
total_zero (suc n) = omega (arith, total_zero n)

-- a longer sum is not smaller
pub total_up : (f : ℕ → ℕ) (i k : ℕ) → i ≤ k → total f i ≤ total f k
unfolding total
total_up f i k l = let e : i + (k - i) ≡ k = omega arith in rw e at (up (k - i))
  where
    up : (d : ℕ) → total f i ≤ total f (i + d)
    up zero = rw add-zero (omega arith)
    up (suc d) = rw add-suc (omega (arith, up d))
