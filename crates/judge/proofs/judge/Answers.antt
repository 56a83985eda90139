use mathlib.Core.Path.{◌∙◌}
use Rattle.kinds.specs.SoundByTests.{counts_none, counts_found, lent_found}
use Rattle.judge.proofs.VerdictChain.{bad_set, lent_verdict}
use Rattle.judge.proofs.judge.Goals as goal

pub returns-in_default : goal.returns-in_default
returns-in_default c = bad_set _ _ (counts_none _ c.in_default.ensures)

pub judge_tables-requires : goal.judge_tables-requires
judge_tables-requires c = lent_found _ (counts_found _ c.in-Some.ensures)

pub returns : goal.returns
returns c = c.judge_tables.ensures ∙ lent_verdict _ (counts_found _ c.in-Some.ensures) _
