use mathlib.Core.Path.{sym}
use Prim.Native.Nat.{ℕ, ◌*◌, ◌≤◌}
use native.Mathlib.Nat.{dvd_of_mod-eq-zero, lt_of_le_of_lt}
use native.Mathlib.Omega.{arith}
use lib.Dec.{lit<}
use lib.Ieee.{size}
use Rattle.vocabulary.proofs.Multiple.{lcm_whole}
use Rattle.vocabulary.proofs.Divisor.{euclid_from, euclid_on, euclid_done, euclid_less, euclid_few}
use Rattle.kinds.proofs.multiple_of.Goals as goal

-- so that there are no more than 26.
pub few_turns : (x y : ℕ) → x ≤ 6000 → y ≤ 6000 → size (x * y) ≤ 26
few_turns x y h l = euclid_few x y 13 (lt_of_le_of_lt h (lit< tt)) (lt_of_le_of_lt l (lit< tt))

pub returns-then-y-eq0 : goal.returns-then-y-eq0
returns-then-y-eq0 c = sym (lcm_whole _ _ c.requires.0 (dvd_of_mod-eq-zero _ c.if-y-eq0.true))

pub loop-y-init : goal.loop-y-init
loop-y-init c = euclid_from _ _ c.requires.2

pub loop-y-smaller : goal.loop-y-smaller
loop-y-smaller c = euclid_less _ _ (omega (arith, c.loop-y-test.true)) c.loop-y.invariant.falls

pub loop-y-preserved : goal.loop-y-preserved
loop-y-preserved c = euclid_on _ _ _ _ _ _ c.loop-y.invariant (omega (arith, c.loop-y-test.true))

pub returns : goal.returns
returns c = let p = c.requires in euclid_done _ _ _ _ _ _ p.0 p.2 c.loop-y.invariant c.loop-y-test.false
