-- A loop that writes entries one after another into a list, from a place on.
use Rattle.std.specs.Prelude.{◌≡◌, refl, List, [], ◌⊎◌, ℕ, ◌+◌, ◌≤◌, ◌<◌, length, get_or, set}
use Rattle.std.proofs.Common.{sym, ap, ◌∙◌, inl, inr, ⊎_elim, arith, length-set, get_or-set_same, get_or-set_other}
use Rattle.vocabulary.proofs.Test.{lt_or_le, eq_or_ne}

-- F 0, F 1, .., F (c - 1) stand from place e on, and what stood before e stands
pub record Placed (e c : ℕ) (F : ℕ → List ℕ) (v v' : List (List ℕ)) : Type 0 where
  pub long : length v' ≡ length v
  pub there : (k : ℕ) → k < e → get_or v' k [] ≡ get_or v k []
  pub here : (k : ℕ) → k < c → get_or v' (e + k) [] ≡ F k

pub place_from : (e : ℕ) (F : ℕ → List ℕ) (v : List (List ℕ)) → Placed e 0 F v v
place_from e F v = record { long = refl; there = λ k l. refl; here = λ k l. absurd (omega arith) }

pub place_on : (e n : ℕ) (F : ℕ → List ℕ) (v v' : List (List ℕ)) (r : List ℕ)
    → Placed e n F v v' → e + n < length v → r ≡ F n → Placed e (n + 1) F v (set v' (e + n) r)
place_on e n F v v' r p l q =
    record {
      long = length-set v' (e + n) r ∙ p.long;
      there = λ k lk. get_or-set_other v' (e + n) k r [] (λ z. omega arith) ∙ p.there k lk;
      here = λ k lk. go k lk (eq_or_ne k n);
    }
  where
    go : (k : ℕ) → k < n + 1 → (k ≡ n) ⊎ (k ≡ n → ⊥) → get_or (set v' (e + n) r) (e + k) [] ≡ F k
    go k lk (inl h) =
        ap (λ (m : ℕ). get_or (set v' (e + n) r) (e + m) []) h ∙ get_or-set_same v' (e + n) r [] (omega (arith, p.long)) ∙ q ∙ ap F (sym h)
    go k lk (inr h) =
        get_or-set_other v' (e + n) (e + k) r [] (λ z. h (omega arith))
        ∙ p.here k (⊎_elim (λ m. m) (λ m. absurd (h (omega arith))) (lt_or_le k n))

pub place_end : (e n c : ℕ) (F : ℕ → List ℕ) (v v' : List (List ℕ)) → Placed e n F v v' → n ≤ c → c ≤ n → Placed e c F v v'
place_end e n c F v v' p l h = let q : n ≡ c = omega arith in rw q at p
