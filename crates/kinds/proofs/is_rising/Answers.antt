use Rattle.kinds.specs.Limits.{rises}
use Rattle.std.proofs.Common.{sym, ◌∙◌}
use Rattle.kinds.proofs.is_rising.Goals as goal

pub returns-then-is_within : goal.returns-then-is_within
unfolding rises
returns-then-is_within c = rw (sym c.is_within.ensures ∙ c.if-is_within.true, ← c.low_second.ensures) c.is_within-then-is_within.ensures

pub returns-else-is_within : goal.returns-else-is_within
unfolding rises
returns-else-is_within c = rw (sym c.is_within.ensures ∙ c.if-is_within.false) (c.if-is_within.false)
