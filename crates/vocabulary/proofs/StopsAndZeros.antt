-- Tests that a program asks for by `if !f(..)`, and lists of zeros.
use Rattle.std.specs.Prelude.{◌≡◌, refl, Bool, true, false, not, List, ℕ, zero, suc, ◌<◌, ◌≤◌, get_or, set, replicate}
use Rattle.std.proofs.Common.{sym, ◌∙◌, arith, get_or-set_other}
use Rattle.std.proofs.lemmas.Bool.{not-true, not-false}

-- The answer stands for a test: it stopped, so the test fails; it went on, so the test passes.
pub stopped : {b r : Bool} → r ≡ b → not r ≡ true → b ≡ false
stopped {b} {r} e h = sym e ∙ not-true r h

pub passed : {b r : Bool} → r ≡ b → not r ≡ false → b ≡ true
passed {b} {r} e h = sym e ∙ not-false r h

-- Zeros are 0 at every place, also beyond their end.
pub zeros : (n i : ℕ) → ◌≡◌ {A = ℕ} (get_or (replicate n 0) i 0) 0
zeros zero i = refl
zeros (suc n) zero = refl
zeros (suc n) (suc i) = zeros n i

-- A list whose entries are 0 from n on keeps that where one at k is set, from any place on that lies past k.
pub zeros_set : (xs : List ℕ) (n k m x : ℕ) → ((i : ℕ) → n ≤ i → get_or xs i 0 ≡ 0) → n ≤ m → k < m → (i : ℕ) → m ≤ i → get_or (set xs k x) i 0 ≡ 0
zeros_set xs n k m x h l g i p = get_or-set_other xs k i x 0 (λ e. omega arith) ∙ h i (omega arith)
