-- Rule 23: a link is broken exactly where a tick of its second job is not later than a tick of its first; and one comparison of the two jobs' ends tells.
use mathlib.Core.Path.{◌≡◌}
use mathlib.Core.Bool.{true, false}
use mathlib.Core.Logic.{◌↔◌, ⊎_elim}
use Prim.Native.Nat.{ℕ, ◌+◌, ◌-◌, ◌<◌, ◌≤◌}
use native.Mathlib.Omega.{arith}
use lib.Dec.{leb}
use borrow.Author.Tests.{le-leb, leb-true}
use Rattle.vocabulary.proofs.Test.{clash, fails, both, same_test, lt_or_le}
use Rattle.vocabulary.specs.Least.{least}
use Rattle.vocabulary.proofs.Least.{some_yes, some_at}
use Rattle.kinds.specs.Tasks.{Tasks, deadline}
use Rattle.kinds.specs.Jobs.{release}
use Rattle.kinds.specs.Plans.{Plan, runs}
use Rattle.kinds.specs.Valid.{TickOf, LinkKept}
use Rattle.laws.proofs.Window.{tick_is}
use Rattle.judge.specs.Rules.{against, bars, broken}
use Rattle.kinds.specs.JobTicks.{Gets}
use Rattle.laws.proofs.JobTicks.{to_tick}

of_tick : (u : Tasks) (p : Plan) (i k x : ℕ) → TickOf u p i k x → release u i k + (x - release u i k) ≡ x
of_tick u p i k x t = omega (arith, (tick_is u p i k x t).0)

pub broken_from : (u : Tasks) (p : Plan) (i k j l x y : ℕ) → TickOf u p i k x → TickOf u p j l y → y ≤ x → broken u p i k j l ≡ true
unfolding broken bars against
broken_from u p i k j l x y s t h =
    let a = tick_is u p i k x s in
    let b = tick_is u p j l y t in
    some_yes (bars u p i k j l) (deadline u i) (x - release u i k) (omega (arith, a.0, a.1))
    (rw (of_tick u p i k x s, s.ran)
    (some_yes (against u p j l x) (deadline u j) (y - release u j l) (omega (arith, b.0, b.1)) (rw (of_tick u p j l y t, t.ran) (le-leb y x h))))

pub broken_to : (u : Tasks) (p : Plan) (i k j l : ℕ) → broken u p i k j l ≡ true → LinkKept u p i k j l → ⊥
unfolding broken bars against
broken_to u p i k j l e w =
    let a = some_at (bars u p i k j l) (deadline u i) e in
    let d : ℕ = least (bars u p i k j l) (deadline u i) in
    let x : ℕ = release u i k + d in
    let b = both {a = runs u p i x} a.1 in
    let c = some_at (against u p j l x) (deadline u j) b.1 in
    let f : ℕ = least (against u p j l x) (deadline u j) in
    let y : ℕ = release u j l + f in
    let g = both {a = runs u p j y} c.1 in
    omega (arith, leb-true y x g.1, w.each x y (to_tick u p i k d a.0 b.0) (to_tick u p j l f c.0 g.0))

pub kept_iff : (u : Tasks) (p : Plan) (i k j l : ℕ) → (broken u p i k j l ≡ false) ↔ LinkKept u p i k j l
kept_iff u p i k j l = (
  λ e. record { each = λ x y s t. ⊎_elim (λ h. h) (λ h. clash (broken_from u p i k j l x y s t h) e) (lt_or_le x y) },
  λ w. fails (λ e. broken_to u p i k j l e w),
)

-- A link is broken where the first tick of the second job is not later than the last of the first.
pub broken_is : (u : Tasks) (p : Plan) (i k j l c a b c' a' b' : ℕ) → Gets u p i k c a b → 0 < c → Gets u p j l c' a' b' → 0 < c'
    → leb a' b ≡ broken u p i k j l
broken_is u p i k j l c a b c' a' b' g q g' q' =
    same_test
    (λ e. broken_from u p i k j l b a' (g.last q) (g'.first q') (leb-true _ _ e))
    (λ e.
    ⊎_elim (λ h. absurd (broken_to u p i k j l e (record { each = λ x y r s. omega (arith, (g.bounds x r).1, (g'.bounds y s).0) })))
    (λ h. le-leb a' b h) (lt_or_le b a'))
