-- Every number below 2,097,152 has one form that is read, and no other number has one.
use Rattle.std.specs.Prelude.{◌≡◌, Bool, List, [], ◌∷◌, ℕ, zero, suc, ◌+◌, ◌*◌, ◌-◌, ◌/◌, ◌%◌, ◌<◌, ◌≤◌, leb, eqb, Ok}
use Rattle.std.proofs.Math.Path.{refl}
use Rattle.std.proofs.Common.{sym, ◌∙◌}
use Rattle.std.proofs.Math.Bool.{true, false}
use native.Mathlib.Omega.{arith}
use borrow.Author.Tests.{leb-false, lt-leb, lt-ltb, le-ltb, ltb-true, ltb-false, eqb-false, ne_eqb}
use Rattle.std.proofs.Math.Dec.{ltb}
use Rattle.std.proofs.Math.ListN.{length, get_or}
use Rattle.vocabulary.specs.Test.{pick}
use Rattle.vocabulary.proofs.Test.{took, missed}
use Rattle.vocabulary.specs.Parts.{PartAt}
use Rattle.numbers.specs.Numbers.{number_at, number_bytes}
use Rattle.numbers.specs.Results.{err_ok, ok_first, ok_second}
use Rattle.numbers.specs.Bytes.{third_at, second_at, number_is}

-- a list of bytes
abbrev pub Bytes : List ℕ → Type 0
Bytes s = (j : ℕ) → j < length s → get_or s j 0 < 256

-- ---- the three forms
pub one_byte : (v : ℕ) → v < 128 → number_bytes v ≡ v ∷ []
unfolding number_bytes
one_byte v l = rw (lt-ltb v 128 l)

pub two_bytes : (v : ℕ) → 128 ≤ v → v < 16384 → number_bytes v ≡ (128 + v % 128) ∷ (v / 128) ∷ []
unfolding number_bytes
two_bytes v h l = rw (le-ltb v 128 h, lt-ltb v 16384 l)

pub three_bytes : (v : ℕ) → 16384 ≤ v → number_bytes v ≡ (128 + v % 128) ∷ (128 + v / 128 % 128) ∷ (v / 16384) ∷ []
unfolding number_bytes
three_bytes v h = rw (le-ltb v 128 (omega arith), le-ltb v 16384 h)

-- ---- a form is read
module _ (s : List ℕ) (at v : ℕ) where
  read_one : v < 128 → PartAt s at (v ∷ []) → number_at s at ≡ Ok (v, at + 1)
  read_one l p =
      let z : at + 0 ≡ at = omega arith in
      let a : get_or s at 0 ≡ v = rw z at (p.entry 0 (omega arith)) in
      number_is s at ∙ rw (lt-leb (length s) at (omega (arith, p.within)), a, lt-ltb v 128 l)

  read_two : 128 ≤ v → v < 16384 → PartAt s at ((128 + v % 128) ∷ (v / 128) ∷ []) → number_at s at ≡ Ok (v, at + 2)
  unfolding second_at
  read_two h l p =
      let z : at + 0 ≡ at = omega arith in
      let a : get_or s at 0 ≡ 128 + v % 128 = rw z at (p.entry 0 (omega arith)) in
      let b : get_or s (at + 1) 0 ≡ v / 128 = p.entry 1 (omega arith) in
      let d : 128 + v % 128 - 128 + 128 * (v / 128) ≡ v = omega arith in
      number_is s at
      ∙ rw (
        lt-leb (length s) at (omega (arith, p.within)),
        a,
        le-ltb (128 + v % 128) 128 (omega arith),
        lt-leb (length s) (at + 1) (omega (arith, p.within)),
        b,
        ne_eqb (v / 128) 0 (λ e. omega arith),
        lt-ltb (v / 128) 128 (omega arith),
        d,
      )

  read_three : 16384 ≤ v → v < 2097152 → PartAt s at ((128 + v % 128) ∷ (128 + v / 128 % 128) ∷ (v / 16384) ∷ []) → number_at s at ≡ Ok (v, at + 3)
  unfolding second_at third_at
  read_three h l p =
      let z : at + 0 ≡ at = omega arith in
      let a : get_or s at 0 ≡ 128 + v % 128 = rw z at (p.entry 0 (omega arith)) in
      let b : get_or s (at + 1) 0 ≡ 128 + v / 128 % 128 = p.entry 1 (omega arith) in
      let c : get_or s (at + 2) 0 ≡ v / 16384 = p.entry 2 (omega arith) in
      let d : 128 + v % 128 - 128 + 128 * (128 + v / 128 % 128 - 128) + 16384 * (v / 16384) ≡ v = omega arith in
      number_is s at
      ∙ rw (
        lt-leb (length s) at (omega (arith, p.within)),
        a,
        le-ltb (128 + v % 128) 128 (omega arith),
        lt-leb (length s) (at + 1) (omega (arith, p.within)),
        b,
        ne_eqb (128 + v / 128 % 128) 0 (λ e. omega arith),
        le-ltb (128 + v / 128 % 128) 128 (omega arith),
        lt-leb (length s) (at + 2) (omega (arith, p.within)),
        c,
        ne_eqb (v / 16384) 0 (λ e. omega arith),
        lt-ltb (v / 16384) 128 (omega arith),
        d,
      )

  -- ==== The bytes of a number below 2,097,152 are read as that number, wherever they stand.
  pub form_read : v < 2097152 → PartAt s at (number_bytes v) → number_at s at ≡ Ok (v, at + length (number_bytes v))
  form_read l p = by (ltb v 128) refl (ltb v 16384) refl
    where
      by : (a : Bool) → ltb v 128 ≡ a → (b : Bool) → ltb v 16384 ≡ b → number_at s at ≡ Ok (v, at + length (number_bytes v))
      by true x b y = let f = one_byte v (ltb-true v 128 x) in rw f (read_one (ltb-true v 128 x) (rw f at p))
      by false x true y =
          let f = two_bytes v (ltb-false v 128 x) (ltb-true v 16384 y) in
          rw f (read_two (ltb-false v 128 x) (ltb-true v 16384 y) (rw f at p))
      by false x false y = let f = three_bytes v (ltb-false v 16384 y) in rw f (read_three (ltb-false v 16384 y) l (rw f at p))

-- ---- what is read is a form
pub record FormAt (s : List ℕ) (at v next : ℕ) : Type 0 where
  pub low : v < 2097152
  pub bytes : PartAt s at (number_bytes v)
  pub ends : next ≡ at + length (number_bytes v)

-- of a number below 128, of one below 16,384 and of any other, by the entries
at_one : (s : List ℕ) (at v : ℕ) → v < 128 → at < length s → get_or s at 0 ≡ v → FormAt s at v (at + 1)
at_one s at v l w e = let f = one_byte v l in record { low = omega arith; bytes = rw f part; ends = rw f }
  where
    entries : (j : ℕ) → j < 1 → get_or s (at + j) 0 ≡ get_or (v ∷ []) j 0
    entries zero h = let z : at + 0 ≡ at = omega arith in rw z e
    entries (suc j) h = absurd (omega arith)

    part : PartAt s at (v ∷ [])
    part = record { within = omega arith; entry = entries }

at_two : (s : List ℕ) (at v : ℕ) → 128 ≤ v → v < 16384 → at + 1 < length s → get_or s at 0 ≡ 128 + v % 128 → get_or s (at + 1) 0 ≡ v / 128 → FormAt s at v (at + 2)
at_two s at v h l w a b = let f = two_bytes v h l in record { low = omega arith; bytes = rw f part; ends = rw f }
  where
    entries : (j : ℕ) → j < 2 → get_or s (at + j) 0 ≡ get_or ((128 + v % 128) ∷ (v / 128) ∷ []) j 0
    entries zero h = let z : at + 0 ≡ at = omega arith in rw z a
    entries (suc zero) h = b
    entries (suc (suc j)) h = absurd (omega arith)

    part : PartAt s at ((128 + v % 128) ∷ (v / 128) ∷ [])
    part = record { within = omega arith; entry = entries }

at_three : (s : List ℕ) (at v : ℕ) → 16384 ≤ v → v < 2097152 → at + 2 < length s → get_or s at 0 ≡ 128 + v % 128 → get_or s (at + 1) 0 ≡ 128 + v / 128 % 128
    → get_or s (at + 2) 0 ≡ v / 16384 → FormAt s at v (at + 3)
at_three s at v h l w a b c = let f = three_bytes v h in record { low = l; bytes = rw f part; ends = rw f }
  where
    entries : (j : ℕ) → j < 3 → get_or s (at + j) 0 ≡ get_or ((128 + v % 128) ∷ (128 + v / 128 % 128) ∷ (v / 16384) ∷ []) j 0
    entries zero h = let z : at + 0 ≡ at = omega arith in rw z a
    entries (suc zero) h = b
    entries (suc (suc zero)) h = c
    entries (suc (suc (suc j))) h = absurd (omega arith)

    part : PartAt s at ((128 + v % 128) ∷ (128 + v / 128 % 128) ∷ (v / 16384) ∷ [])
    part = record { within = omega arith; entry = entries }

module _ (s : List ℕ) (bytes : Bytes s) (at v next : ℕ) where
  by_third : get_or s at 0 < 256 → 128 ≤ get_or s at 0 → at + 1 < length s → 128 ≤ get_or s (at + 1) 0
      → third_at s at (get_or s at 0 - 128 + 128 * (get_or s (at + 1) 0 - 128)) ≡ Ok (v, next) → FormAt s at v next
  unfolding third_at
  by_third l h w k e =
      let a = missed (leb (length s) (at + 2)) _ _ _ e err_ok in
      let b = missed (eqb (get_or s (at + 2) 0) 0) _ _ _ a.1 err_ok in
      let c = took (ltb (get_or s (at + 2) 0) 128) _ _ _ b.1 err_ok in
      let far : at + 2 < length s = leb-false (length s) (at + 2) a.0 in
      let low : get_or s (at + 2) 0 < 128 = ltb-true (get_or s (at + 2) 0) 128 c.0 in
      let some : get_or s (at + 2) 0 ≡ 0 → ⊥ = eqb-false (get_or s (at + 2) 0) 0 b.0 in
      let n : at + 3 ≡ next = ok_second c.1 in
      let z : get_or s at 0 - 128 + 128 * (get_or s (at + 1) 0 - 128) + 16384 * get_or s (at + 2) 0 ≡ v = ok_first c.1 in
      let m : get_or s (at + 1) 0 < 256 = bytes (at + 1) w in
      rw n at
      (at_three s at v (omega (arith, some)) (omega arith) far (omega arith) (omega arith) (omega arith))

  by_second : get_or s at 0 < 256 → 128 ≤ get_or s at 0 → second_at s at (get_or s at 0 - 128) ≡ Ok (v, next) → FormAt s at v next
  unfolding second_at
  by_second l h e =
      let a = missed (leb (length s) (at + 1)) _ _ _ e err_ok in
      let b = missed (eqb (get_or s (at + 1) 0) 0) _ _ _ a.1 err_ok in
      by (ltb (get_or s (at + 1) 0) 128) refl (leb-false (length s) (at + 1) a.0) (eqb-false (get_or s (at + 1) 0) 0 b.0) b.1
    where
      by : (x : Bool) → ltb (get_or s (at + 1) 0) 128 ≡ x → at + 1 < length s → (get_or s (at + 1) 0 ≡ 0 → ⊥)
          → pick x (Ok (get_or s at 0 - 128 + 128 * get_or s (at + 1) 0, at + 2))
          (third_at s at (get_or s at 0 - 128 + 128 * (get_or s (at + 1) 0 - 128))) ≡ Ok (v, next) → FormAt s at v next
      by true q w some c =
          let n : at + 2 ≡ next = ok_second c in
          let z : get_or s at 0 - 128 + 128 * get_or s (at + 1) 0 ≡ v = ok_first c in
          let low : get_or s (at + 1) 0 < 128 = ltb-true (get_or s (at + 1) 0) 128 q in
          rw n at (at_two s at v (omega (arith, some)) (omega arith) w (omega arith) (omega arith))
      by false q w some c = by_third l h w (ltb-false (get_or s (at + 1) 0) 128 q) c

  -- ==== A number that is read from bytes is below 2,097,152, and its bytes stand there.
  pub read_form : number_at s at ≡ Ok (v, next) → FormAt s at v next
  read_form e =
      let a = missed (leb (length s) at) _ _ _ (sym (number_is s at) ∙ e) err_ok in
      by (ltb (get_or s at 0) 128) refl (leb-false (length s) at a.0) a.1
    where
      by : (x : Bool) → ltb (get_or s at 0) 128 ≡ x → at < length s
          → pick x (Ok (get_or s at 0, at + 1)) (second_at s at (get_or s at 0 - 128)) ≡ Ok (v, next) → FormAt s at v next
      by true q w c =
          let n : at + 1 ≡ next = ok_second c in
          let z : get_or s at 0 ≡ v = ok_first c in
          let low : get_or s at 0 < 128 = ltb-true (get_or s at 0) 128 q in
          rw n at (at_one s at v (omega arith) w z)
      by false q w c = by_second (bytes at w) (ltb-false (get_or s at 0) 128 q) c
