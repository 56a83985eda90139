use native.Mathlib.Omega.{arith}
use native.Mathlib.Nat.{mod-eq_of_lt}
use lib.Arith.{digits_lt}
use Rattle.kinds.specs.Plans.{slot}
use Rattle.judge.proofs.twice.PlanView.slot_at.Goals as goal

pub overflow_mul-result : goal.overflow_mul-result
overflow_mul-result c = omega (arith, digits_lt c.requires.1 c.requires.2, c.requires.0.short)

pub overflow_add-result : goal.overflow_add-result
overflow_add-result c = omega (arith, digits_lt c.requires.1 c.requires.2, c.requires.0.short)

pub bounds-self-c : goal.bounds-self-c
bounds-self-c c = omega (arith, digits_lt c.requires.1 c.requires.2, c.requires.0.long)

pub returns : goal.returns
unfolding slot
returns c = rw (mod-eq_of_lt c.requires.1)
