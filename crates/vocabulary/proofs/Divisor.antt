-- Laws of the definitions in specs/Divisor.antt.
use Rattle.std.specs.Prelude.{◌≡◌, ◌↔◌, ℕ, zero, suc, ◌+◌, ◌-◌, ◌*◌, ◌/◌, ◌%◌, ◌^◌, ◌≤◌, ◌<◌}
use Rattle.std.proofs.Common.{sym, ap, ◌∙◌, subst, mul_comm, mul_assoc, mul_right_comm, mul-add, add-mul, mul-le-mul_left, mul-lt-mul_of_pos_right, mod-lt, le-mul_of_pos_right, lt_of_le_of_lt, le_of_lt, arith, pow-add, pow_pos}
use Rattle.std.specs.Int.{◌∣◌}
use Rattle.std.proofs.Math.Nat.{dvd_refl, dvd-zero, dvd_antisymm, dvd-mod_iff, dvd-mul_right, dvd-mul_left, dvd-mul_right_of_dvd, dvd_of_mul-dvd-mul_left, mul-dvd-mul_left, mul-dvd-mul_right, mul-div_cancel', div-mul_cancel, mul-div_assoc, div-add-mod, mul-lt-mul_of_pos_left, mod-le, mod-eq-sub-mod, eq_of_mul-eq-mul_right, pos_of_dvd_of_pos, two-pow-succ}
use Rattle.std.specs.Float.Ieee.{size}
use Rattle.std.specs.Float.Ieee.Digits.{size-lt, size-le}
use Rattle.vocabulary.specs.Multiple.{lcm}
use Rattle.vocabulary.proofs.Multiple.{lcm_pos, lcm_left, lcm_right, lcm_dvd}
use Rattle.vocabulary.specs.Divisor.{GreatestDivisor, Euclid}

-- Two such numbers are equal.
pub divisor_only : (a b g h : ℕ) → GreatestDivisor a b g → GreatestDivisor a b h → g ≡ h
divisor_only a b g h d e = dvd_antisymm (e.divides g d.left d.right) (d.divides h e.left e.right)

-- ---- Euclid's step
-- What divides b divides a exactly where it divides what remains of a by b, so a step keeps the divisor;
pub euclid : (a b g : ℕ) → GreatestDivisor b (a % b) g ↔ GreatestDivisor a b g
euclid a b g = (
  λ d. record { left = (dvd-mod_iff g d.left).0 d.right; right = d.left; divides = λ q p r. d.divides q r ((dvd-mod_iff q r).1 p) },
  λ d. record { left = d.right; right = (dvd-mod_iff g d.right).1 d.left; divides = λ q p r. d.divides q ((dvd-mod_iff q p).0 r) p },
)

-- where nothing remains, it is there;
pub euclid_end : (a : ℕ) → GreatestDivisor a 0 a
euclid_end a = record { left = dvd_refl a; right = dvd-zero a; divides = λ q p r. p }

-- a step more than halves the product of the two numbers,
pub euclid_halves : (x y : ℕ) → 0 < y → y ≤ x → y * (x % y) * 2 < x * y
euclid_halves x y h l =
    let r : x % y + y ≤ x = omega (arith, mod-eq-sub-mod l, mod-le (x - y) y) in
    rw (mul_assoc y (x % y) 2, mul_comm x y) (mul-lt-mul_of_pos_left (omega (arith, mod-lt x h)) h)

-- which loses a binary digit by it, so there are no more steps than the product has digits:
pub euclid_less : (x y : ℕ) → 0 < y → y ≤ x → size (y * (x % y)) < size (x * y)
euclid_less x y h l = go (size (x * y)) (size-lt (x * y))
  where
    go : (s : ℕ) → x * y < 2 ^ s → size (y * (x % y)) < s
    go zero k = absurd (omega (arith, euclid_halves x y h l))
    go (suc s) k = omega (arith, size-le (y * (x % y)) s (omega (arith, euclid_halves x y h l, two-pow-succ s)))

-- for numbers of k digits no more than 2k.
pub euclid_few : (x y k : ℕ) → x < 2 ^ k → y < 2 ^ k → size (x * y) ≤ k + k
euclid_few x y k h l = size-le (x * y) (k + k) (rw (pow-add 2 k k) (lt_of_le_of_lt (mul-le-mul_left x (le_of_lt l)) (mul-lt-mul_of_pos_right h (pow_pos k))))

-- ---- the least common multiple
product : (a b : ℕ) → 0 < a → 0 < b → lcm a b * (a * b / lcm a b) ≡ a * b
product a b ha hb = mul-div_cancel' (lcm a b) (lcm_dvd a b (a * b) ha hb (dvd-mul_right a b) (dvd-mul_left b a))

-- Of two numbers that are not 0, the product by the least common multiple is the greatest common divisor.
pub divisor_there : (a b : ℕ) → 0 < a → 0 < b → GreatestDivisor a b (a * b / lcm a b)
divisor_there a b ha hb =
    record {
      left = cancel a (rw (mul_comm l a) (mul-dvd-mul_left b a (lcm_right a b hb)));
      right = cancel b (mul-dvd-mul_right a (lcm_left a b) b);
      divides = within;
    }
  where
    l : ℕ
    l = lcm a b

    g : ℕ
    g = a * b / l

    cancel : (n : ℕ) → a * b ∣ l * n → g ∣ n
    cancel n d = dvd_of_mul-dvd-mul_left g (lcm_pos a b ha) (subst (λ (x : ℕ). x ∣ l * n) (sym (product a b ha hb)) d)

    within : (q : ℕ) → q ∣ a → q ∣ b → q ∣ g
    within q p r =
        let left : a ∣ a * b / q = rw (mul-div_assoc q a r) (dvd-mul_right a (b / q)) in
        let right : b ∣ a * b / q = rw (mul_comm a b, mul-div_assoc q b p) (dvd-mul_right b (a / q)) in
        let times : l * q ∣ a * b / q * q = mul-dvd-mul_right l (lcm_dvd a b (a * b / q) ha hb left right) q in
        dvd_of_mul-dvd-mul_left q (lcm_pos a b ha)
        (subst (λ (x : ℕ). l * q ∣ x) (div-mul_cancel q (dvd-mul_right_of_dvd q p b) ∙ sym (product a b ha hb)) times)

-- The least common multiple times the greatest common divisor is the product.
pub lcm_divisor : (a b g : ℕ) → 0 < a → 0 < b → GreatestDivisor a b g → lcm a b * g ≡ a * b
lcm_divisor a b g ha hb d =
    rw (divisor_only a b g (a * b / lcm a b) d (divisor_there a b ha hb)) (product a b ha hb)

-- So b, times as often as the divisor goes into a, is the least common multiple.
pub lcm_by_divisor : (a b g n : ℕ) → 0 < a → 0 < b → GreatestDivisor a b g → n * g ≡ a → n * b ≡ lcm a b
lcm_by_divisor a b g n ha hb d e =
    eq_of_mul-eq-mul_right g (pos_of_dvd_of_pos d.left ha) (n * b) (lcm a b)
    (mul_right_comm n b g ∙ ap (λ (m : ℕ). m * b) e ∙ sym (lcm_divisor a b g ha hb d))

-- after the first step
pub euclid_from : (a b : ℕ) → 0 < b → Euclid a b b (a % b) (a / b) 1
euclid_from a b h = record { same = λ g d. (euclid a b g).0 d; falls = le_of_lt (mod-lt a h); whole = omega (arith, div-add-mod a b) }

makes_whole : (x y t s : ℕ) → y * (s + x / y * t) + x % y * t ≡ x * t + y * s
makes_whole x y t s =
    omega (arith, mul-add y s (x / y * t), mul_assoc y (x / y) t, add-mul (y * (x / y)) (x % y) t, ap (λ (n : ℕ). n * t) (div-add-mod x y))

pub euclid_on : (a b x y t s : ℕ) → Euclid a b x y t s → 0 < y → Euclid a b y (x % y) (s + x / y * t) t
euclid_on a b x y t s e h =
    record { same = λ g d. e.same g ((euclid x y g).0 d); falls = le_of_lt (mod-lt x h); whole = makes_whole x y t s ∙ e.whole }

-- no count is above a
pub euclid_room : (a b x y t s : ℕ) → Euclid a b x y t s → 0 < y → s + x / y * t ≤ a
euclid_room a b x y t s e h =
    let n : ℕ = s + x / y * t in
    omega (arith, le-mul_of_pos_right n h, mul_comm n y, makes_whole x y t s, e.whole)

pub euclid_done : (a b x y t s : ℕ) → 0 < a → 0 < b → Euclid a b x y t s → y ≡ 0 → t * b ≡ lcm a b
euclid_done a b x y t s ha hb e z =
    lcm_by_divisor a b x t ha hb (e.same x (rw z (euclid_end x))) (omega (arith, mul_comm t x, e.whole, ap (λ (n : ℕ). n * s) z))
