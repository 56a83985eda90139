use Rattle.network.specs.JobTimes.{over_is}
use Rattle.vocabulary.proofs.Least.{seek, on, found, nowhere}
use borrow.Author.Tests.{lt-ltb, le-ltb}
use mathlib.Core.Path.{sym, ◌∙◌}
use native.Mathlib.Omega.{arith}
use Rattle.network.proofs.times.first_over.Goals as goal

pub loop-x-init : goal.loop-x-init
loop-x-init c = seek _ _

pub overflow_add-r : goal.overflow_add-r
overflow_add-r c = omega (arith, c.requires.early _ c.loop-x-test.true, c.requires.light _ c.loop-x-test.true)

pub overflow_add-r-in-loop-x : goal.overflow_add-r-in-loop-x
overflow_add-r-in-loop-x c = omega (arith, c.requires.early _ c.loop-x-test.true, c.requires.light _ c.loop-x-test.true, c.requires.late _ c.loop-x-test.true)

pub returns-then-r-gt12000 : goal.returns-then-r-gt12000
returns-then-r-gt12000 c = found _ _ _ c.loop-x.invariant c.loop-x-test.true (sym (over_is _ _) ∙ lt-ltb _ _ c.if-r-gt12000.true)

pub loop-x-preserved : goal.loop-x-preserved
loop-x-preserved c = on _ _ _ c.loop-x.invariant c.loop-x-test.true (sym (over_is _ _) ∙ le-ltb _ _ c.if-r-gt12000.false)

pub returns : goal.returns
returns c = nowhere _ _ _ c.loop-x.invariant c.loop-x-test.false
