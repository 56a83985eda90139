use mathlib.Core.Path.{sym, ◌∙◌}
use native.Mathlib.Nat.{add-sub_cancel_left}
use native.Mathlib.Omega.{arith}
use Rattle.heads.specs.Tables.{on_two}
use Rattle.heads.proofs.ReadInRange.{two_bounds}
use Rattle.heads.specs.LoopSteps.{pairs_step, pairs_none}
use Rattle.std.proofs.lemmas.Result.{err_from_is_err_and}
use borrow.Author.Rules.{rules}
use Rattle.heads.proofs.read_pairs.Goals as goal

pub overflow_add-end : goal.overflow_add-end
overflow_add-end c = omega arith

pub loop-j-init : goal.loop-j-init
loop-j-init c = (search rules, rw add-sub_cancel_left)

pub returns-in_err-a : goal.returns-in_err-a
unfolding on_two
returns-in_err-a c =
    let e = err_from_is_err_and c.from_residual.result c.from_residual.ensures.1 in
    rw (e.1, e.2) (sym (pairs_step _ _ _ _ _ _ _ _ c.loop-j-test.true ∙ simp (← c.read_two.ensures, c.in_err-a.was)) ∙ c.loop-j.invariant.1)

pub put_pair-requires : goal.put_pair-requires
put_pair-requires c =
    let b = two_bounds _ _ _ _ _ _ _ _ c.read_two.ensures c.in_ok-a.was in
    let p = c.requires in
    (omega arith, omega arith, omega arith)

pub overflow_add-low : goal.overflow_add-low
overflow_add-low c = omega (arith, two_bounds _ _ _ _ _ _ _ _ c.read_two.ensures c.in_ok-a.was)

pub loop-j-preserved : goal.loop-j-preserved
unfolding on_two
loop-j-preserved c = (omega arith, rw c.put_pair.ensures (sym (pairs_step _ _ _ _ _ _ _ _ c.loop-j-test.true ∙ simp (← c.read_two.ensures, c.in_ok-a.was)) ∙ c.loop-j.invariant.1))

pub returns : goal.returns
returns c = sym (pairs_none _ _ _ _ _ _ _ _ c.loop-j-test.false) ∙ c.loop-j.invariant.1
