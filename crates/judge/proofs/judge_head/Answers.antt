use mathlib.Core.Path.{◌∙◌}
use Rattle.reader.proofs.WholeLaws.{whole_found}
use Rattle.judge.proofs.HeadVerdict.{no_head, head_judged}
use Rattle.judge.proofs.judge_head.Goals as goal

pub returns-in_default : goal.returns-in_default
returns-in_default c = no_head _ _ _ _ (rw c.new-tables.ensures at c.read_whole.ensures) c.in_default.is

pub judge_tables-requires : goal.judge_tables-requires
judge_tables-requires c = whole_found _ _ _ (rw c.new-tables.ensures at c.read_whole.ensures) c.in-Some.is

pub returns : goal.returns
returns c = c.judge_tables.ensures ∙ head_judged _ _ _ _ (rw c.new-tables.ensures at c.read_whole.ensures) c.in-Some.is
