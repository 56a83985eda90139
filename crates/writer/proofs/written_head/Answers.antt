use mathlib.Core.Path.{◌∙◌}
use Rattle.reader.proofs.WholeLaws.{whole_found}
use Rattle.writer.proofs.Order.{no_head, head_answered}
use Rattle.writer.proofs.written_head.Goals as goal

pub returns-in_default : goal.returns-in_default
returns-in_default c = no_head _ _ _ _ (rw c.new-tables.ensures at c.read_whole.ensures) _ c.in_default.is

pub answer-requires : goal.answer-requires
answer-requires c = whole_found _ _ _ (rw c.new-tables.ensures at c.read_whole.ensures) c.in-Some.is

pub returns : goal.returns
returns c = c.answer.ensures ∙ head_answered _ _ _ _ (rw c.new-tables.ensures at c.read_whole.ensures) c.in-Some.is _
