use Rattle.std.proofs.Common.{◌∙◌}
use Rattle.slots.proofs.HighLaws.{none_high, position_high}
use Rattle.slots.proofs.first_high.Goals as goal

pub returns-then-from-n : goal.returns-then-from-n
returns-then-from-n c = none_high _ _ _ c.highest.ensures (rw (← c.from.ensures) c.if-from-n.true)

pub returns : goal.returns
returns c = c.seek_high.ensures ∙ position_high _ _
