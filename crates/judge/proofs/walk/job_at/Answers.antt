use native.Mathlib.Omega.{arith}
use mathlib.Core.Path.{sym}
use native.Mathlib.Nat.{div-le_self}
use Prim.Native.Nat.{◌-◌}
use borrow.Author.Tests.{lt-ltb, le-ltb}
use Rattle.laws.proofs.Window.{time_from}
use Rattle.judge.specs.JobOfSlot.{job_at}
use Rattle.judge.proofs.walk.job_at.Goals as goal

pub overflow_sub-r : goal.overflow_sub-r
overflow_sub-r c = omega (arith, c.time_of.ensures, (time_from c.args.h c.args.t.offset c.args.c (omega arith) (omega arith)).0)

pub overflow_add-result : goal.overflow_add-result
overflow_add-result c = omega (arith, c.time_of.ensures, (time_from c.args.h c.args.t.offset c.args.c (omega arith) (omega arith)).1, div-le_self (c.time_of.result - c.args.t.offset) c.args.t.period)

pub returns-then-r-t : goal.returns-then-r-t
unfolding job_at
returns-then-r-t c = rw (sym c.time_of.ensures, lt-ltb _ _ c.if-r-t.true)

pub returns : goal.returns
unfolding job_at
returns c = rw (sym c.time_of.ensures, le-ltb _ _ c.if-r-t.false)
