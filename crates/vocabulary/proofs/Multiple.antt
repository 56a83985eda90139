-- Laws of the definitions in specs/Multiple.antt.
use Rattle.std.specs.Prelude.{Bool, true, ◌≡◌, refl, ℕ, zero, suc, ◌+◌, ◌-◌, ◌*◌, ◌/◌, ◌%◌, ◌≤◌, ◌<◌}
use Rattle.std.proofs.Common.{ap₂, subst, ⊎_elim, le-div_iff_mul-le, mul-le-mul_left, mul-pos, mod-lt, one-mul, eq-zero-or-pos, add-zero, add-suc, le_refl, le_trans, le_antisymm, eq-or-lt_of_le, le_of_suc-le-suc, add-one, arith, eq-eqb, eqb-true}
use Rattle.std.specs.Int.{◌∣◌}
use Rattle.std.proofs.Math.Nat.{dvd_refl, dvd-mul_right, dvd-mul_left, dvd_trans, dvd_of_mod-eq-zero, mod-eq-zero_of_dvd, mul-div_cancel', le_of_dvd, pos_of_dvd_of_pos, mul-mod_left, dvd-mod_iff, one-dvd}
use Rattle.vocabulary.proofs.Test.{clash, lt_or_le}
use Rattle.vocabulary.specs.Least.{least}
use Rattle.vocabulary.proofs.Least.{least_is}
use Rattle.vocabulary.specs.Multiple.{meets, lcm, Common, lcm_of}

meets_of : (a b w : ℕ) → 0 < w → a * w % b ≡ 0 → meets a b (w - 1) ≡ true
meets_of a b w h e = let p : w - 1 + 1 ≡ w = omega arith in eq-eqb (a * (w - 1 + 1) % b) 0 (rw p e)

-- the search finds no place beyond one that passes
sooner : (f : ℕ → Bool) (n k : ℕ) → f k ≡ true → least f n ≤ k
sooner f n k e = ⊎_elim (λ h. clash e ((least_is f n).before k h)) (λ h. h) (lt_or_le k (least f n))

pub lcm_left : (a b : ℕ) → a ∣ lcm a b
unfolding lcm
lcm_left a b = dvd-mul_right a _

pub lcm_right : (a b : ℕ) → 0 < b → b ∣ lcm a b
unfolding lcm
lcm_right a b h =
    let f : ℕ → Bool = meets a b in
    let l : least f b ≤ b - 1 = sooner f b (b - 1) (meets_of a b b h (mul-mod_left a b)) in
    dvd_of_mod-eq-zero b (eqb-true _ 0 ((least_is f b).found (omega arith)))

pub lcm_pos : (a b : ℕ) → 0 < a → 0 < lcm a b
unfolding lcm
lcm_pos a b h = mul-pos h (omega arith)

pub lcm_least : (a b q : ℕ) → 0 < q → a ∣ q → b ∣ q → lcm a b ≤ q
unfolding lcm
lcm_least a b q h p r =
    let w : ℕ = q / a in
    let e : a * w ≡ q = mul-div_cancel' a p in
    let pos : 1 ≤ w = (le-div_iff_mul-le (pos_of_dvd_of_pos p h)).1 (rw one-mul (le_of_dvd h p)) in
    let f : least (meets a b) b ≤ w - 1 = sooner (meets a b) b (w - 1) (meets_of a b w pos (rw e (mod-eq-zero_of_dvd b r))) in
    subst (λ (x : ℕ). a * (least (meets a b) b + 1) ≤ x) e (mul-le-mul_left a (omega arith))

pub lcm_dvd : (a b q : ℕ) → 0 < a → 0 < b → a ∣ q → b ∣ q → lcm a b ∣ q
lcm_dvd a b q ha hb p r =
    let l = mod-lt q (lcm_pos a b ha) in
    dvd_of_mod-eq-zero (lcm a b)
    (⊎_elim (λ z. z)
    (λ s. absurd (omega (arith, lcm_least a b (q % lcm a b) s ((dvd-mod_iff a (lcm_left a b)).1 p) ((dvd-mod_iff b (lcm_right a b hb)).1 r))))
    (eq-zero-or-pos (q % lcm a b)))

-- at most the product
pub lcm_le : (a b : ℕ) → 0 < a → 0 < b → lcm a b ≤ a * b
lcm_le a b ha hb = lcm_least a b (a * b) (mul-pos ha hb) (dvd-mul_right a b) (dvd-mul_left b a)

pub lcm_comm : (a b : ℕ) → 0 < a → 0 < b → lcm a b ≡ lcm b a
lcm_comm a b ha hb =
    le_antisymm (lcm_least a b (lcm b a) (lcm_pos b a hb) (lcm_right b a ha) (lcm_left b a))
    (lcm_least b a (lcm a b) (lcm_pos a b ha) (lcm_right a b hb) (lcm_left a b))

-- a number that the other divides
pub lcm_whole : (a b : ℕ) → 0 < a → b ∣ a → lcm a b ≡ a
lcm_whole a b ha d = le_antisymm (lcm_least a b a ha (dvd_refl a) d) (le_of_dvd (lcm_pos a b ha) (lcm_left a b))

pub lcm_common : (a b : ℕ) → 0 < a → 0 < b → Common a b (lcm a b)
lcm_common a b ha hb = record { some = lcm_pos a b ha; left = lcm_left a b; right = lcm_right a b hb; divides = λ q p r. lcm_dvd a b q ha hb p r }

pub lcm_only : (a b m : ℕ) → 0 < a → 0 < b → Common a b m → m ≡ lcm a b
lcm_only a b m ha hb c =
    le_antisymm (le_of_dvd (lcm_pos a b ha) (c.divides (lcm a b) (lcm_left a b) (lcm_right a b hb))) (lcm_least a b m c.some c.left c.right)

pub lcm_of_none : (T : ℕ → ℕ) → lcm_of T 0 ≡ 1
unfolding lcm_of
lcm_of_none T = refl

pub lcm_of_more : (T : ℕ → ℕ) (n : ℕ) → lcm_of T (n + 1) ≡ lcm (lcm_of T n) (T n)
unfolding lcm_of
lcm_of_more T n = rw add-one

pub lcm_of_same : (S T : ℕ → ℕ) (n : ℕ) → ((i : ℕ) → i < n → S i ≡ T i) → lcm_of S n ≡ lcm_of T n
unfolding lcm_of
lcm_of_same S T zero h = refl
lcm_of_same S T (suc n) h = ap₂ lcm (lcm_of_same S T n (λ i l. h i (omega arith))) (h n (omega arith))

pub lcm_of_pos : (T : ℕ → ℕ) (n : ℕ) → 0 < lcm_of T n
unfolding lcm_of
lcm_of_pos T zero = omega arith
lcm_of_pos T (suc n) = lcm_pos (lcm_of T n) (T n) (lcm_of_pos T n)

-- more numbers have no smaller one
pub lcm_of_up : (T : ℕ → ℕ) (i n : ℕ) → i ≤ n → lcm_of T i ≤ lcm_of T n
lcm_of_up T i n h = let e : i + (n - i) ≡ n = omega arith in rw e at (grows (n - i))
  where
    grows : (k : ℕ) → lcm_of T i ≤ lcm_of T (i + k)
    grows zero = rw add-zero (le_refl _)
    grows (suc k) =
        rw (add-suc, ← add-one (i + k), lcm_of_more)
        (le_trans (grows k) (le_of_dvd (lcm_pos (lcm_of T (i + k)) (T (i + k)) (lcm_of_pos T (i + k))) (lcm_left (lcm_of T (i + k)) (T (i + k)))))

-- each of the numbers divides it
pub lcm_of_dvd : (T : ℕ → ℕ) (n i : ℕ) → ((j : ℕ) → j < n → 0 < T j) → i < n → T i ∣ lcm_of T n
unfolding lcm_of
lcm_of_dvd T zero i h l = absurd (omega arith)
lcm_of_dvd T (suc n) i h l =
    ⊎_elim (λ e. rw e (lcm_right (lcm_of T n) (T n) (h n (omega arith))))
    (λ m. dvd_trans (T i) (lcm_of_dvd T n i (λ j q. h j (omega arith)) m) (lcm_left (lcm_of T n) (T n)))
    (eq-or-lt_of_le (le_of_suc-le-suc l))

-- and it divides whatever they all divide
pub lcm_of_least : (T : ℕ → ℕ) (n q : ℕ) → ((j : ℕ) → j < n → 0 < T j) → ((j : ℕ) → j < n → T j ∣ q) → lcm_of T n ∣ q
unfolding lcm_of
lcm_of_least T zero q h d = one-dvd q
lcm_of_least T (suc n) q h d =
    lcm_dvd (lcm_of T n) (T n) q (lcm_of_pos T n) (h n (omega arith))
    (lcm_of_least T n q (λ j l. h j (omega arith)) (λ j l. d j (omega arith)))
    (d n (omega arith))
