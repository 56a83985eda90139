use mathlib.Core.Path.{◌∙◌}
use Rattle.reader.proofs.WholeLaws.{whole_found}
use Rattle.writer.proofs.Order.{no_head_written, head_written}
use Rattle.writer.proofs.write_head.Goals as goal

pub returns-in_default : goal.returns-in_default
returns-in_default c = no_head_written _ _ _ _ (rw c.new-tables.ensures at c.read_whole.ensures) _ c.in_default.is

pub write_set-requires : goal.write_set-requires
write_set-requires c = whole_found _ _ _ (rw c.new-tables.ensures at c.read_whole.ensures) c.in-Some.is

pub returns : goal.returns
returns c = c.write_set.ensures ∙ head_written _ _ _ _ (rw c.new-tables.ensures at c.read_whole.ensures) c.in-Some.is _
