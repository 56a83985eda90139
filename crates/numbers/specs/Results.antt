-- Results by their constructors: an Ok is no Err, and what is in equal ones is equal, part by part where it is a tuple.
use Rattle.std.specs.Prelude.{◌≡◌, ℕ, Result, Ok, Err}
use Rattle.std.proofs.Common.{ap, arith}

module _ {A E : Type 0} where
  pub err_ok : {e : E} {a : A} → ◌≡◌ {A = Result A E} (Err e) (Ok a) → ⊥
  err_ok h = let z : ◌≡◌ {A = ℕ} 0 1 = cc in omega arith

  pub ok_err : {e : E} {a : A} → ◌≡◌ {A = Result A E} (Ok a) (Err e) → ⊥
  ok_err h = let z : ◌≡◌ {A = ℕ} 0 1 = cc in omega arith

  pub same_ok : {a b : A} → ◌≡◌ {A = Result A E} (Ok a) (Ok b) → a ≡ b
  same_ok h = cc h

  pub same_err : {d e : E} → ◌≡◌ {A = Result A E} (Err d) (Err e) → d ≡ e
  same_err h = cc h

-- pairs
module _ {A B E : Type 0} {a x : A} {b y : B} (h : ◌≡◌ {A = Result (A × B) E} (Ok (a, b)) (Ok (x, y))) where
  pub ok_first : a ≡ x
  ok_first = ap (λ (p : A × B). p.0) (same_ok h)

  pub ok_second : b ≡ y
  ok_second = ap (λ (p : A × B). p.1) (same_ok h)

-- triples
module _ {A B C E : Type 0} {a x : A} {b y : B} {c z : C} (h : ◌≡◌ {A = Result (A × B × C) E} (Ok (a, b, c)) (Ok (x, y, z))) where
  pub ok3_first : a ≡ x
  ok3_first = ap (λ (p : A × B × C). p.0) (same_ok h)

  pub ok3_second : b ≡ y
  ok3_second = ap (λ (p : A × B × C). p.1) (same_ok h)

  pub ok3_third : c ≡ z
  ok3_third = ap (λ (p : A × B × C). p.2) (same_ok h)
