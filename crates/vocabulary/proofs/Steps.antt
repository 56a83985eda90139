-- Laws of the definitions in specs/Steps.antt.
use Rattle.std.specs.Prelude.{◌≡◌, refl, List, ◌⊎◌, ℕ, suc, ◌+◌, ◌*◌, ◌≤◌, ◌<◌, length, get_or, set}
use Rattle.std.proofs.Common.{sym, ap, ◌∙◌, inl, inr, mul-le-mul, le_refl, arith, length-set, get_or-set_same, get_or-set_other}
use Rattle.vocabulary.proofs.Test.{eq_or_ne}
use Rattle.vocabulary.specs.Steps.{StepsPut, Stepping}

pub step_from : (e c x d : ℕ) (v : List ℕ) → Stepping e c x d v v 0 x
step_from e c x d v =
    record { within = omega arith; next = omega arith; done = record { long = refl; there = λ k l. refl; here = λ k l. absurd (omega arith) } }

-- a number and its step stay below m while turns are left
pub step_low : (c x d n a m : ℕ) → a ≡ x + n * d → n < c → x + c * d < m → a + d < m
step_low c x d n a m e l h = omega (arith, mul-le-mul (let g : suc n ≤ c = omega arith in g) (le_refl d))

pub step_on : (e c x d : ℕ) (v v' : List ℕ) (n a : ℕ) → e + c ≤ length v → Stepping e c x d v v' n a → n < c
    → Stepping e c x d v (set v' (e + n) a) (n + 1) (a + d)
step_on e c x d v v' n a r p l =
    record {
      within = omega arith;
      next = omega (arith, p.next);
      done = record {
        long = length-set v' (e + n) a ∙ p.done.long;
        there = λ k lk. get_or-set_other v' (e + n) k a 0 (λ z. omega arith) ∙ p.done.there k lk;
        here = λ k lk. go k lk (eq_or_ne k n);
      };
    }
  where
    go : (k : ℕ) → k < n + 1 → (k ≡ n) ⊎ (k ≡ n → ⊥) → get_or (set v' (e + n) a) (e + k) 0 ≡ x + k * d
    go k lk (inl q) =
        ap (λ (m : ℕ). get_or (set v' (e + n) a) (e + m) 0) q
        ∙ get_or-set_same v' (e + n) a 0 (omega (arith, p.done.long))
        ∙ p.next
        ∙ ap (λ (m : ℕ). x + m * d) (sym q)
    go k lk (inr q) = get_or-set_other v' (e + n) (e + k) a 0 (λ z. q (omega arith)) ∙ p.done.here k (omega arith)

pub step_end : (e c x d : ℕ) (v v' : List ℕ) (n a : ℕ) → Stepping e c x d v v' n a → c ≤ n → StepsPut e c x d v v'
step_end e c x d v v' n a p l = record { long = p.done.long; there = p.done.there; here = λ k lk. p.done.here k (omega arith) }
