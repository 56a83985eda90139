use mathlib.Core.Path.{sym, ◌∙◌}
use native.Mathlib.Nat.{sub-zero}
use native.Mathlib.Omega.{arith}
use Rattle.heads.specs.LoopSteps.{patterns_stop, patterns_turn, patterns_none}
use Rattle.heads.proofs.Bounds.{pattern_low}
use Rattle.std.proofs.lemmas.Result.{err_from_is_err_and}
use borrow.Author.Rules.{rules}
use Rattle.heads.proofs.read_patterns.Goals as goal

pub loop-i-init : goal.loop-i-init
loop-i-init c = (search rules, search rules, search rules, rw sub-zero)

pub read_pattern-requires : goal.read_pattern-requires
read_pattern-requires c =
    let v = c.loop-i.invariant in
    let a = c.requires in
    (omega (arith, c.loop-i-test.true, a.1), a.0, a.2, v.1, v.2)

pub returns-in_err-done : goal.returns-in_err-done
returns-in_err-done c =
    let e = err_from_is_err_and c.from_residual.result c.from_residual.ensures.1 in
    rw (e.1, e.2) (sym (patterns_stop _ _ _ _ _ _ _ _ c.loop-i-test.true c.read_pattern.ensures c.in_err-done.was) ∙ c.loop-i.invariant.3)

pub loop-i-preserved : goal.loop-i-preserved
loop-i-preserved c =
    let v = c.loop-i.invariant in
    let l = pattern_low _ _ _ _ _ _ _ c.requires.2 c.read_pattern.ensures c.in_ok-done.was in (
      omega arith,
      l.0,
      omega (arith, v.2, l.1),
      sym (patterns_turn _ _ _ _ _ _ _ _ c.loop-i-test.true c.read_pattern.ensures c.in_ok-done.was) ∙ v.3,
    )

pub returns : goal.returns
returns c = sym (patterns_none _ _ _ _ _ _ _ _ c.loop-i-test.false) ∙ c.loop-i.invariant.3
