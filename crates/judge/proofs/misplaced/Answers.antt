use native.Mathlib.Omega.{arith}
use native.Mathlib.Nat.{div-le_self, mod-lt}
use Rattle.judge.proofs.VerdictChain.{misplaced_twice, misplaced_outside}
use Rattle.judge.proofs.misplaced.Goals as goal

pub returns-in-Some : goal.returns-in-Some
returns-in-Some c = λ u h. misplaced_twice _ _ c.in-Some.ensures

pub overflow_cast-result : goal.overflow_cast-result
overflow_cast-result c = omega (arith, div-le_self c.args.e c.args.rows.m, c.requires.3, c.requires.0.short)

pub overflow_cast-result-2 : goal.overflow_cast-result-2
overflow_cast-result-2 c = omega (arith, mod-lt c.args.e c.requires.1, c.requires.2)

pub returns : goal.returns
returns c = λ u h. misplaced_outside _ _ c.in_default.ensures c.requires.1 _ h
