use native.Mathlib.Omega.{arith}
use Rattle.kinds.specs.Sound.{attributes_fit}
use Rattle.kinds.specs.RangeLaws.{holds_at}
use Rattle.std.proofs.Common.{sym, ◌∙◌}
use Rattle.kinds.proofs.attributes_fit.Goals as goal

pub returns-then-not-is_within : goal.returns-then-not-is_within
unfolding attributes_fit
returns-then-not-is_within c = rw (sym c.is_within.ensures ∙ c.if-not-is_within.true)

pub overflow_add-t : goal.overflow_add-t
overflow_add-t c = omega (arith, holds_at 1 6001 _ (sym c.is_within.ensures ∙ c.if-not-is_within.false))

pub returns-then-not-is_within-2 : goal.returns-then-not-is_within-2
unfolding attributes_fit
returns-then-not-is_within-2 c = rw (sym c.is_within.ensures ∙ c.if-not-is_within.false, sym c.is_within-2.ensures ∙ c.if-not-is_within-2.true)

pub returns-then-not-is_within-3 : goal.returns-then-not-is_within-3
unfolding attributes_fit
returns-then-not-is_within-3 c = rw (sym c.is_within.ensures ∙ c.if-not-is_within.false, sym c.is_within-2.ensures ∙ c.if-not-is_within-2.false, sym c.is_within-3.ensures ∙ c.if-not-is_within-3.true)

pub overflow_add-t-2 : goal.overflow_add-t-2
overflow_add-t-2 c = omega (arith, holds_at 1 6001 _ (sym c.is_within.ensures ∙ c.if-not-is_within.false))

pub returns : goal.returns
unfolding attributes_fit
returns c = rw (sym c.is_within.ensures ∙ c.if-not-is_within.false, sym c.is_within-2.ensures ∙ c.if-not-is_within-2.false, sym c.is_within-3.ensures ∙ c.if-not-is_within-3.false) c.is_within-4.ensures
