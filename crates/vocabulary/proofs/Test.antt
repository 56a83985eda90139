-- Laws of the definitions in specs/Test.antt.
use Rattle.std.specs.Prelude.{◌≡◌, refl, Bool, true, false, not, ◌&&◌, ◌||◌, ◌⊎◌, ℕ, ◌≤◌, ◌<◌, ltb, eqb}
use Rattle.std.proofs.Common.{sym, ◌∙◌, true≢false, inl, inr, ⊎_elim, lit≤, ltb-true, ltb-false, eqb-true}
use Rattle.std.proofs.lemmas.Bool.{eqb-false}
use Rattle.vocabulary.specs.Test.{pick, bit}

pub by_true : {A : Type 0} {b : Bool} (x y : A) → b ≡ true → x ≡ pick b x y
by_true x y e = rw e

pub by_false : {A : Type 0} {b : Bool} (x y : A) → b ≡ false → y ≡ pick b x y
by_false x y e = rw e

-- A pick whose second way is ruled out took the first, and the other way round.
pub took : {A : Type 0} (b : Bool) (x y z : A) → pick b x y ≡ z → (y ≡ z → ⊥) → (b ≡ true) × (x ≡ z)
took true x y z e f = (refl, e)
took false x y z e f = absurd (f e)

pub missed : {A : Type 0} (b : Bool) (x y z : A) → pick b x y ≡ z → (x ≡ z → ⊥) → (b ≡ false) × (y ≡ z)
missed true x y z e f = absurd (f e)
missed false x y z e f = (refl, e)

pub bit_le : (b : Bool) → bit b ≤ 1
bit_le true = lit≤ tt
bit_le false = lit≤ tt

pub bit_mono : (a b : Bool) → (a ≡ true → b ≡ true) → bit a ≤ bit b
bit_mono true b h = rw (h refl) (lit≤ tt)
bit_mono false true h = lit≤ tt
bit_mono false false h = lit≤ tt

-- every test passes or fails
pub decide : (b : Bool) → (b ≡ true) ⊎ (b ≡ false)
decide true = inl refl
decide false = inr refl

-- a test that passes and fails
pub clash : {A : Type 0} {b : Bool} → b ≡ true → b ≡ false → A
clash p q = absurd (true≢false (sym p ∙ q))

-- a test that does not pass fails
pub fails : {b : Bool} → (b ≡ true → ⊥) → b ≡ false
fails {b} h = go b h
  where
    go : (c : Bool) → (c ≡ true → ⊥) → c ≡ false
    go true g = absurd (g refl)
    go false g = refl

-- numbers by cases
pub lt_or_le : (a b : ℕ) → (a < b) ⊎ (b ≤ a)
lt_or_le a b = ⊎_elim (λ p. inl (ltb-true a b p)) (λ p. inr (ltb-false a b p)) (decide (ltb a b))

pub eq_or_ne : (a b : ℕ) → (a ≡ b) ⊎ (a ≡ b → ⊥)
eq_or_ne a b = ⊎_elim (λ p. inl (eqb-true a b p)) (λ p. inr (eqb-false a b p)) (decide (eqb a b))

-- laws of the connectives, by cases
pub and_true : (b : Bool) → (b && true) ≡ b
and_true true = refl
and_true false = refl

pub and_false : (b : Bool) → (b && false) ≡ false
and_false true = refl
and_false false = refl

pub and_comm : (a b : Bool) → (a && b) ≡ (b && a)
and_comm true b = sym (and_true b)
and_comm false b = sym (and_false b)

pub and_assoc : (a b c : Bool) → ((a && b) && c) ≡ (a && (b && c))
and_assoc true b c = refl
and_assoc false b c = refl

pub and_swap : (a b c : Bool) → ((a && b) && c) ≡ ((a && c) && b)
and_swap true b c = and_comm b c
and_swap false b c = refl

pub not_or : (a b : Bool) → not (a || b) ≡ (not a && not b)
not_or true b = refl
not_or false b = refl

-- a conjunction that passes
pub both : {a b : Bool} → (a && b) ≡ true → (a ≡ true) × (b ≡ true)
both {a} {b} e = go a b e
  where
    go : (x y : Bool) → (x && y) ≡ true → (x ≡ true) × (y ≡ true)
    go true y e = (refl, e)
    go false y e = clash e refl

-- tests that pass alike are equal
pub same_test : {a b : Bool} → (a ≡ true → b ≡ true) → (b ≡ true → a ≡ true) → a ≡ b
same_test {a} {b} f g = go a b f g
  where
    go : (x y : Bool) → (x ≡ true → y ≡ true) → (y ≡ true → x ≡ true) → x ≡ y
    go true y f g = sym (f refl)
    go false true f g = g refl
    go false false f g = refl
