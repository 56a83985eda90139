use mathlib.Core.Path.{◌∙◌}
use Rattle.kinds.specs.SoundByTests.{counts_none, counts_found, lent_found}
use Rattle.writer.proofs.Order.{not_written, lent_written}
use Rattle.writer.proofs.write.Goals as goal

pub returns-in_default : goal.returns-in_default
returns-in_default c = not_written _ _ _ (counts_none _ c.in_default.ensures)

pub write_set-requires : goal.write_set-requires
write_set-requires c = lent_found _ (counts_found _ c.in-Some.ensures)

pub returns : goal.returns
returns c = c.write_set.ensures ∙ lent_written _ (counts_found _ c.in-Some.ensures) _ _
