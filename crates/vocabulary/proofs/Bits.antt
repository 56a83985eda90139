-- Laws of the definitions in specs/Bits.antt.
use Rattle.std.specs.Prelude.{◌≡◌, refl, Bool, true, false, ◌&&◌, ◌||◌, not, ◌⊎◌, ℕ, zero, suc, ◌+◌, ◌*◌, ◌-◌, ◌/◌, ◌%◌, ◌^◌, ◌≤◌, ◌<◌, min, max, eqb}
use Rattle.std.proofs.Common.{sym, ap, ◌∙◌, inl, inr, ⊎_elim, div-one, arith, lt_of_lt_of_le, one-mul, zero-mul, add-zero, eq-or-lt_of_le, le_of_suc-le-suc, le_refl, pow_mono, shl_exact, add-one, lit<, eq-eqb, ne_eqb}
use Rattle.std.proofs.Math.Nat.{div-div-eq-div-mul, two-pow-succ, pow-succ', div-eq_of_lt}
use Rattle.std.proofs.Math.Pow.{pow-lt}
use Rattle.std.proofs.Math.Dec.{eqb-zero-suc, eqb-suc-zero, eqb-suc-suc}
use Rattle.std.specs.Int.Bits.{bit_and, bit_or, or_step, and_step}
use Rattle.std.proofs.lemmas.Nat.{or_shr, and_shr}
use Rattle.vocabulary.specs.Test.{bit}
use Rattle.vocabulary.proofs.Test.{clash, lt_or_le}
use Rattle.vocabulary.specs.Bits.{has, pack, Packing}

pub has_zero : (x : ℕ) → has x 0 ≡ eqb (x % 2) 1
unfolding has
has_zero x = rw div-one

pub has_suc : (x i : ℕ) → has x (suc i) ≡ has (x / 2) i
unfolding has
has_suc x i = ap (λ (n : ℕ). eqb (n % 2) 1) (ap (λ (n : ℕ). x / n) (pow-succ' 2 i) ∙ sym (div-div-eq-div-mul x 2 (2 ^ i)))

-- ---- or, and
or_digit : (x y : ℕ) → bit_or x y % 2 ≡ max (x % 2) (y % 2)
or_digit x y = omega (arith, or_step x y)

and_digit : (x y : ℕ) → bit_and x y % 2 ≡ min (x % 2) (y % 2)
and_digit x y = omega (arith, and_step x y)

digit : (x : ℕ) → (x % 2 ≡ 0) ⊎ (x % 2 ≡ 1)
digit x = ⊎_elim (λ h. inl (omega arith)) (λ h. inr (omega arith)) (lt_or_le (x % 2) 1)

pub has_or : (a b i : ℕ) → has (bit_or a b) i ≡ (has a i || has b i)
unfolding has
has_or a b i = rw (or_shr a b i, or_digit) (go _ _ (digit (a / 2 ^ i)) (digit (b / 2 ^ i)))
  where
    go : (u v : ℕ) → (u ≡ 0) ⊎ (u ≡ 1) → (v ≡ 0) ⊎ (v ≡ 1) → eqb (max u v) 1 ≡ (eqb u 1 || eqb v 1)
    go u v (inl p) (inl q) = rw (p, q)
    go u v (inl p) (inr q) = rw (p, q)
    go u v (inr p) (inl q) = rw (p, q)
    go u v (inr p) (inr q) = rw (p, q)

pub has_and : (a b i : ℕ) → has (bit_and a b) i ≡ (has a i && has b i)
unfolding has
has_and a b i = rw (and_shr a b i, and_digit) (go _ _ (digit (a / 2 ^ i)) (digit (b / 2 ^ i)))
  where
    go : (u v : ℕ) → (u ≡ 0) ⊎ (u ≡ 1) → (v ≡ 0) ⊎ (v ≡ 1) → eqb (min u v) 1 ≡ (eqb u 1 && eqb v 1)
    go u v (inl p) (inl q) = rw (p, q)
    go u v (inl p) (inr q) = rw (p, q)
    go u v (inr p) (inl q) = rw (p, q)
    go u v (inr p) (inr q) = rw (p, q)

-- ---- one bit alone, and its complement
pub has_none : (i : ℕ) → has 0 i ≡ false
has_none zero = rw has_zero
has_none (suc i) = rw has_suc (has_none i)

pub has_one : (j i : ℕ) → has (2 ^ j) i ≡ eqb i j
has_one zero zero = rw has_zero
has_one zero (suc i) = rw (has_suc, eqb-suc-zero) (has_none i)
has_one (suc j) zero = rw (has_zero, eqb-zero-suc) (ne_eqb (2 ^ suc j % 2) 1 (λ e. omega (arith, two-pow-succ j)))
has_one (suc j) (suc i) = rw (has_suc, eqb-suc-suc) (ap (λ (n : ℕ). has n i) (let g : 2 ^ suc j / 2 ≡ 2 ^ j = omega (arith, two-pow-succ j) in g) ∙ has_one j i)

pub has_not : (k x j : ℕ) → x < 2 ^ k → j < k → has (2 ^ k - 1 - x) j ≡ not (has x j)
has_not zero x j l m = absurd (omega arith)
has_not (suc k) x zero l m = rw (has_zero (2 ^ suc k - 1 - x), has_zero x) (go (x % 2) ((2 ^ suc k - 1 - x) % 2) (digit x) (omega (arith, two-pow-succ k)))
  where
    go : (u v : ℕ) → (u ≡ 0) ⊎ (u ≡ 1) → v + u ≡ 1 → eqb v 1 ≡ not (eqb u 1)
    go u v (inl p) e = rw p (eq-eqb v 1 (omega arith))
    go u v (inr p) e = rw p (ne_eqb v 1 (λ q. omega arith))
has_not (suc k) x (suc j) l m =
    rw (has_suc (2 ^ suc k - 1 - x) j, has_suc x j)
    (ap (λ (n : ℕ). has n j) (let g : (2 ^ suc k - 1 - x) / 2 ≡ 2 ^ k - 1 - x / 2 = omega (arith, two-pow-succ k) in g)
    ∙ has_not k (x / 2) j (omega (arith, two-pow-succ k)) (omega arith))

pub pack_lt : (f : ℕ → Bool) (n : ℕ) → pack f n < 2 ^ n
unfolding pack
pack_lt f zero = lit< tt
pack_lt f (suc n) = go (f n) (pack_lt f n)
  where
    go : (b : Bool) → pack f n < 2 ^ n → pack f n + bit b * 2 ^ n < 2 ^ suc n
    go true l = omega (arith, two-pow-succ n)
    go false l = omega (arith, two-pow-succ n)

half_add : (x n : ℕ) → (x + 2 ^ suc n) / 2 ≡ x / 2 + 2 ^ n
half_add x n = omega (arith, two-pow-succ n)

has_add : (n x j : ℕ) → j < n → has (x + 2 ^ n) j ≡ has x j
has_add zero x j l = absurd (omega arith)
has_add (suc n) x zero l =
    rw (has_zero (x + 2 ^ suc n), has_zero x) (ap (λ (u : ℕ). eqb u 1) (let g : (x + 2 ^ suc n) % 2 ≡ x % 2 = omega (arith, two-pow-succ n) in g))
has_add (suc n) x (suc j) l = rw (has_suc (x + 2 ^ suc n) j, has_suc x j, half_add) (has_add n (x / 2) j (omega arith))

has_top : (n x : ℕ) → x < 2 ^ n → has (x + 2 ^ n) n ≡ true
has_top zero x l = rw has_zero (eq-eqb ((x + 1) % 2) 1 (omega arith))
has_top (suc n) x l = rw (has_suc, half_add) (has_top n (x / 2) (omega (arith, two-pow-succ n)))

pub has_out : (x n j : ℕ) → x < 2 ^ n → n ≤ j → has x j ≡ false
unfolding has
has_out x n j l h = rw (div-eq_of_lt (lt_of_lt_of_le l (pow_mono h)))

pub has_pack : (f : ℕ → Bool) (n j : ℕ) → j < n → has (pack f n) j ≡ f j
unfolding pack
has_pack f zero j l = absurd (omega arith)
has_pack f (suc n) j l = go (f n) refl (eq-or-lt_of_le (le_of_suc-le-suc l)) (has_pack f n j)
  where
    go : (b : Bool) → f n ≡ b → (j ≡ n) ⊎ (j < n) → (j < n → has (pack f n) j ≡ f j) → has (pack f n + bit b * 2 ^ n) j ≡ f j
    go true e (inl q) r = rw (one-mul, q) (has_top n (pack f n) (pack_lt f n) ∙ sym e)
    go true e (inr h) r = rw one-mul (has_add n (pack f n) j h ∙ r h)
    go false e (inl q) r = rw (zero-mul, add-zero, q) (has_out (pack f n) n n (pack_lt f n) (le_refl n) ∙ sym e)
    go false e (inr h) r = rw (zero-mul, add-zero) (r h)

-- words of n bits are equal by their bits
pub has_ext : (n a b : ℕ) → a < 2 ^ n → b < 2 ^ n → ((j : ℕ) → j < n → has a j ≡ has b j) → a ≡ b
has_ext zero a b la lb h = omega arith
has_ext (suc n) a b la lb h =
    let e : a / 2 ≡ b / 2 =
    has_ext n (a / 2) (b / 2) (omega (arith, two-pow-succ n)) (omega (arith, two-pow-succ n))
    (λ j l. sym (has_suc a j) ∙ h (suc j) (omega arith) ∙ has_suc b j) in
    let z : eqb (a % 2) 1 ≡ eqb (b % 2) 1 = sym (has_zero a) ∙ h 0 (omega arith) ∙ has_zero b in
    go (digit a) (digit b) e z
  where
    go : (a % 2 ≡ 0) ⊎ (a % 2 ≡ 1) → (b % 2 ≡ 0) ⊎ (b % 2 ≡ 1) → a / 2 ≡ b / 2 → eqb (a % 2) 1 ≡ eqb (b % 2) 1 → a ≡ b
    go (inl p) (inl q) e z = omega arith
    go (inr p) (inr q) e z = omega arith
    go (inl p) (inr q) e z = clash (z ∙ eq-eqb (b % 2) 1 q) (ne_eqb (a % 2) 1 (λ r. omega arith))
    go (inr p) (inl q) e z = clash (sym z ∙ eq-eqb (a % 2) 1 p) (ne_eqb (b % 2) 1 (λ r. omega arith))

pub pack_has : (n x : ℕ) → x < 2 ^ n → pack (has x) n ≡ x
pack_has n x l = has_ext n (pack (has x) n) x (pack_lt (has x) n) l (has_pack (has x) n)

-- ---- for code
-- `1 << i` of a u64
pub one_shl : (i : ℕ) → i < 64 → 1 * 2 ^ i % 2 ^ 64 ≡ 2 ^ i
one_shl i h = shl_exact 1 i 64 (lit< tt) (omega arith) ∙ one-mul (2 ^ i)

pub pack_from : (f : ℕ → Bool) (n : ℕ) → Packing f n 0 0
unfolding pack
pack_from f n = record { within = omega arith; is = refl }

pub pack_hit : (f : ℕ → Bool) (n i x x' : ℕ) → Packing f n i x → i < n → n ≤ 64 → f i ≡ true → x' ≡ x + 1 * 2 ^ i % 2 ^ 64 → Packing f n (i + 1) x'
unfolding pack
pack_hit f n i x x' p l h e q =
    record { within = omega arith; is = q ∙ rw (add-one, e, one_shl i (omega arith), one-mul, p.is) }

pub pack_miss : (f : ℕ → Bool) (n i x x' : ℕ) → Packing f n i x → i < n → f i ≡ false → x' ≡ x → Packing f n (i + 1) x'
unfolding pack
pack_miss f n i x x' p l e q = record { within = omega arith; is = q ∙ rw (add-one, e, zero-mul, add-zero) p.is }

-- the sum fits
pub pack_room : (f : ℕ → Bool) (n i x : ℕ) → Packing f n i x → i < n → n ≤ 64 → x + 1 * 2 ^ i % 2 ^ 64 < 2 ^ 64
pack_room f n i x p l h =
    rw (one_shl i (omega arith))
    (lt_of_lt_of_le (let g : x + 2 ^ i < 2 ^ suc i = omega (arith, p.is, pack_lt f i, two-pow-succ i) in g) (pow_mono {j = 64} (omega arith)))

pub packed : (f : ℕ → Bool) (n i x : ℕ) → Packing f n i x → n ≤ i → x ≡ pack f n
packed f n i x p l = p.is ∙ ap (pack f) (let g : i ≡ n = omega (arith, p.within) in g)

-- `x | 1 << i` and `x & !(1 << i)`
pub set_word : (x i j : ℕ) → i < 64 → has (bit_or x (1 * 2 ^ i % 2 ^ 64)) j ≡ (has x j || eqb j i)
set_word x i j h = has_or x (1 * 2 ^ i % 2 ^ 64) j ∙ ap (λ (b : Bool). has x j || b) (ap (λ (n : ℕ). has n j) (one_shl i h) ∙ has_one i j)

pub clear_word : (x i j : ℕ) → i < 64 → j < 64 → has (bit_and x (2 ^ 64 - 1 - 1 * 2 ^ i % 2 ^ 64)) j ≡ (has x j && not (eqb j i))
clear_word x i j h l =
    has_and x (2 ^ 64 - 1 - 1 * 2 ^ i % 2 ^ 64) j
    ∙ ap (λ (b : Bool). has x j && b)
    (ap (λ (n : ℕ). has (2 ^ 64 - 1 - n) j) (one_shl i h) ∙ has_not 64 (2 ^ i) j (pow-lt h) l ∙ ap not (has_one i j))
