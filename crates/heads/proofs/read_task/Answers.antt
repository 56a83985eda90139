use native.Mathlib.Omega.{arith}
use Rattle.std.proofs.Common.{rules}
use Rattle.numbers.specs.Numbers.{and_then}
use Rattle.heads.specs.Tables.{times_from, task_from}
use Rattle.heads.proofs.ReadInRange.{got_bounds}
use Rattle.heads.proofs.read_task.Goals as goal

pub overflow_add-t : goal.overflow_add-t
overflow_add-t c = omega (arith, got_bounds _ _ _ _ _ _ _ c.read_within.ensures c.in_ok-t.was)

pub overflow_add-t-2 : goal.overflow_add-t-2
overflow_add-t-2 c = omega (arith, got_bounds _ _ _ _ _ _ _ c.read_within.ensures c.in_ok-t.was)

pub returns-in_err-t : goal.returns-in_err-t
unfolding task_from and_then
returns-in_err-t c = search rules

pub returns-in_err-c : goal.returns-in_err-c
unfolding task_from and_then
returns-in_err-c c = search rules

pub returns-in_err-o : goal.returns-in_err-o
unfolding task_from times_from and_then
returns-in_err-o c = search rules

pub returns-in_err-d : goal.returns-in_err-d
unfolding task_from times_from and_then
returns-in_err-d c = search rules

pub returns : goal.returns
unfolding task_from times_from and_then
returns c = search rules
