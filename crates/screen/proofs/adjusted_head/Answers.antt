use Rattle.screen.proofs.FoundLaws.{adjusted_is}
use mathlib.Core.Path.{◌∙◌}
use Rattle.screen.proofs.adjusted_head.Goals as goal

pub returns : goal.returns
returns c = c.adjusted_of.ensures _ c.found_head.ensures ∙ adjusted_is _ _ _
