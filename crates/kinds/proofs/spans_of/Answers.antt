use native.Mathlib.Omega.{arith}
use mathlib.Core.Path.{ap}
use Rattle.vocabulary.proofs.Test.{both}
use Rattle.kinds.specs.declared.Edition.{Edition}
use Rattle.kinds.specs.Limits.{holds, periods}
use Rattle.kinds.specs.RangeLaws.{holds_at, multiple_some, shares_low, reach_low, spans_none, spans_some}
use Rattle.kinds.proofs.spans_of.Goals as goal

pub returns-then-p-eq0 : goal.returns-then-p-eq0
returns-then-p-eq0 c = spans_none _ _ _ c.common_multiple-p.ensures c.if-p-eq0.true

pub nonzero_div-result : goal.nonzero_div-result
nonzero_div-result c = (holds_at 1 6001 _ (both (multiple_some _ _ c.common_multiple-p.ensures c.if-p-eq0.false).0).0).0

pub nonzero_div-result-2 : goal.nonzero_div-result-2
nonzero_div-result-2 c = (holds_at 1 6001 _ (both {a = holds periods c.args.s} (multiple_some _ _ c.common_multiple-p.ensures c.if-p-eq0.false).0).1).0

pub overflow_mul-result : goal.overflow_mul-result
overflow_mul-result c = omega (arith, reach_low _ _ (ap (λ (x : Edition). x.rounds) c.of-e.ensures) (shares_low _ _ c.common_multiple-p.ensures c.if-p-eq0.false).1)

pub returns : goal.returns
returns c = spans_some _ _ _ c.common_multiple-p.ensures c.if-p-eq0.false (ap (λ (x : Edition). x.rounds) c.of-e.ensures)
