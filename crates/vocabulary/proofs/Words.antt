-- Laws of the definitions in specs/Words.antt.
use Rattle.std.specs.Prelude.{◌≡◌, refl, Bool, true, false, ◌&&◌, ◌||◌, not, ◌⊎◌, ℕ, ◌+◌, ◌*◌, ◌-◌, ◌/◌, ◌%◌, ◌^◌, ◌≤◌, ◌<◌, eqb, leb}
use Rattle.std.proofs.Common.{sym, ap, ◌∙◌, inl, inr, lt_of_lt_of_le, le-div_iff_mul-le, one-mul, arith, pow_mono, pow_pos, lit<, eq-eqb, ne_eqb, eqb-true, le-leb}
use Rattle.std.proofs.Math.Nat.{div-eq_of_lt}
use Rattle.std.proofs.Math.Pow.{pow-lt}
use Rattle.std.specs.Int.Bits.{bit_and, bit_or}
use Rattle.std.proofs.lemmas.Nat.{or_lt}
use Rattle.std.proofs.lemmas.Bool.{lt-leb}
use Rattle.vocabulary.proofs.Test.{lt_or_le, same_test}
use Rattle.vocabulary.specs.Least.{some}
use Rattle.vocabulary.proofs.Least.{some_none, some_more, none}
use Rattle.vocabulary.specs.Bits.{has, pack}
use Rattle.vocabulary.proofs.Bits.{has_or, has_and, has_none, has_out, has_ext, has_pack, pack_lt, one_shl, set_word}
use Rattle.vocabulary.specs.Words.{Marking}

-- `(x >> n) != 0`: the word has a bit at or above n
pub over_word : (x n : ℕ) → not (eqb (x / 2 ^ n) 0) ≡ leb (2 ^ n) x
over_word x n = go (lt_or_le x (2 ^ n))
  where
    go : (x < 2 ^ n) ⊎ (2 ^ n ≤ x) → not (eqb (x / 2 ^ n) 0) ≡ leb (2 ^ n) x
    go (inl l) = rw (div-eq_of_lt l, lt-leb (2 ^ n) x l)
    go (inr l) =
        let z : 1 ≤ x / 2 ^ n = (le-div_iff_mul-le {x = 1} {y = x} (pow_pos n)).1 (rw one-mul l) in
        rw (ne_eqb (x / 2 ^ n) 0 (λ e. omega arith), le-leb (2 ^ n) x l)

-- `x | (y & z)`
pub heard_word : (x y z j : ℕ) → has (bit_or x (bit_and y z)) j ≡ (has x j || (has y j && has z j))
heard_word x y z j = has_or x (bit_and y z) j ∙ ap (λ (b : Bool). has x j || b) (has_and y z j)

-- `x | 1 << (v - 1)`: the mark of the task that v means
pub mark_word : (x v j : ℕ) → (v ≡ 0 → ⊥) → v ≤ 64 → has (bit_or x (1 * 2 ^ (v - 1) % 2 ^ 64)) j ≡ (has x j || eqb v (j + 1))
mark_word x v j p l = set_word x (v - 1) j (omega arith) ∙ ap (λ (b : Bool). has x j || b) (same_test there back)
  where
    there : eqb j (v - 1) ≡ true → eqb v (j + 1) ≡ true
    there e = eq-eqb v (j + 1) (omega (arith, eqb-true j (v - 1) e))

    back : eqb v (j + 1) ≡ true → eqb j (v - 1) ≡ true
    back e = eq-eqb j (v - 1) (omega (arith, eqb-true v (j + 1) e))

pub mark_fits : (x v : ℕ) → x < 2 ^ 64 → (v ≡ 0 → ⊥) → v ≤ 64 → bit_or x (1 * 2 ^ (v - 1) % 2 ^ 64) < 2 ^ 64
mark_fits x v f p l = or_lt 64 x (1 * 2 ^ (v - 1) % 2 ^ 64) f (rw (one_shl (v - 1) (omega arith)) (pow-lt (let g : v - 1 < 64 = omega arith in g)))

pub no_mark_lem : (b : Bool) (v j : ℕ) → v ≡ 0 → b ≡ (b || eqb v (j + 1))
no_mark_lem true v j e = refl
no_mark_lem false v j e = sym (ne_eqb v (j + 1) (λ q. omega arith))

pub mark_from : (g : ℕ → ℕ) (m : ℕ) → Marking g m 0 0
mark_from g m = record { within = omega arith; fits = lit< tt; is = λ j. has_none j ∙ sym (some_none (λ k. eqb (g k) (j + 1))) }

pub mark_on : (g : ℕ → ℕ) (m q x x' : ℕ) → Marking g m q x → q < m → x' < 2 ^ 64 → ((j : ℕ) → has x' j ≡ (has x j || eqb (g q) (j + 1)))
    → Marking g m (q + 1) x'
mark_on g m q x x' p l f h =
    record {
      within = omega arith;
      fits = f;
      is = λ j. h j ∙ ap (λ (b : Bool). b || eqb (g q) (j + 1)) (p.is j) ∙ sym (some_more (λ k. eqb (g k) (j + 1)) q);
    }

pub marked : (g : ℕ → ℕ) (m q n x : ℕ) → Marking g m q x → m ≤ q → n ≤ 64 → ((k : ℕ) → k < m → g k ≤ n) → x ≡ pack (λ j. some (λ k. eqb (g k) (j + 1)) m) n
marked g m q n x p l few low =
    has_ext 64 x (pack f n) p.fits (lt_of_lt_of_le (pack_lt f n) (pow_mono few))
    (λ j h. p.is j ∙ ap (some (λ k. eqb (g k) (j + 1))) (let e : q ≡ m = omega (arith, p.within) in e) ∙ sym (bits j (lt_or_le j n)))
  where
    f : ℕ → Bool
    f j = some (λ k. eqb (g k) (j + 1)) m

    bits : (j : ℕ) → (j < n) ⊎ (n ≤ j) → has (pack f n) j ≡ f j
    bits j (inl h) = has_pack f n j h
    bits j (inr h) =
        has_out (pack f n) n j (pack_lt f n) h
        ∙ sym (none (λ k. eqb (g k) (j + 1)) m (λ k r. ne_eqb (g k) (j + 1) (λ e. omega (arith, low k r))))
