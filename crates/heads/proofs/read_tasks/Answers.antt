use mathlib.Core.Path.{sym, ◌∙◌}
use native.Mathlib.Nat.{sub-zero}
use native.Mathlib.Omega.{arith}
use Rattle.heads.specs.Tables.{on_task}
use Rattle.heads.specs.LoopSteps.{tasks_step, tasks_none}
use Rattle.std.proofs.lemmas.Result.{err_from_is_err_and}
use borrow.Author.Rules.{rules}
use Rattle.heads.proofs.read_tasks.Goals as goal

pub loop-i-init : goal.loop-i-init
loop-i-init c = (search rules, rw sub-zero)

pub returns-in_err-t : goal.returns-in_err-t
unfolding on_task
returns-in_err-t c =
    let e = err_from_is_err_and c.from_residual.result c.from_residual.ensures.1 in
    rw (e.1, e.2) (sym (tasks_step _ _ _ _ _ c.loop-i-test.true ∙ simp (← c.read_task.ensures, c.in_err-t.was)) ∙ c.loop-i.invariant.1)

pub put_task-requires : goal.put_task-requires
put_task-requires c = omega (arith, c.requires)

pub loop-i-preserved : goal.loop-i-preserved
unfolding on_task
loop-i-preserved c = (omega arith, rw c.put_task.ensures (sym (tasks_step _ _ _ _ _ c.loop-i-test.true ∙ simp (← c.read_task.ensures, c.in_ok-t.was)) ∙ c.loop-i.invariant.1))

pub returns : goal.returns
returns c = sym (tasks_none _ _ _ _ _ c.loop-i-test.false) ∙ c.loop-i.invariant.1
