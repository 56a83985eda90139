-- The one place where code computes with signs: 12000 less a number.
use mathlib.Core.Path.{◌≡◌, sym, ap, ◌∙◌, subst}
use mathlib.Core.Logic.{◌⊎◌, inl, inr}
use Prim.Native.Nat.{ℕ, ◌≤◌, ◌<◌}
use native.Mathlib.Nat.{zero-add}
use native.Mathlib.Omega.{arith}
use lib.IntN.{ℤ, pos, sub_ℕ, ◌-ℤ◌}
use mir.Syntax.{w32}
use mir.Val.{SFits, to_z, of_z}
use mir.ValLaws.{to_z_pos, to_z-of_z}
use Rattle.vocabulary.proofs.Test.{lt_or_le}
use Rattle.graph.specs.Pass.{limit}
use Rattle.graph.proofs.Sub.{sub_ge, sub_lt, sub_more}

fits_sub : (x : ℕ) → x ≤ limit → SFits w32 (sub_ℕ 12000 x)
fits_sub x l = go (lt_or_le 12000 x)
  where
    go : (12000 < x) ⊎ (x ≤ 12000) → SFits w32 (sub_ℕ 12000 x)
    go (inl h) = subst (SFits w32) (sym (sub_lt 12000 x h)) (record { sfits = omega arith })
    go (inr h) = subst (SFits w32) (sym (sub_ge 12000 x h)) (record { sfits = omega arith })

reads : (x : ℕ) → x ≤ limit → pos 12000 -ℤ to_z w32 x ≡ sub_ℕ 12000 x
reads x l = ap (λ (z : ℤ). pos 12000 -ℤ z) (to_z_pos w32 x (omega arith)) ∙ sub_more 12000 0 x ∙ ap (sub_ℕ 12000) (zero-add x)

pub left_fits : (x : ℕ) → x ≤ limit → SFits w32 (pos 12000 -ℤ to_z w32 x)
left_fits x l = subst (SFits w32) (sym (reads x l)) (fits_sub x l)

pub left_is : (x : ℕ) → x ≤ limit → to_z w32 (of_z w32 (pos 12000 -ℤ to_z w32 x)) ≡ sub_ℕ 12000 x
left_is x l = to_z-of_z w32 (pos 12000 -ℤ to_z w32 x) (left_fits x l) ∙ reads x l
