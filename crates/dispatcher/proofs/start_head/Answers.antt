use Rattle.dispatcher.proofs.LookLaws.{start_by}
use Rattle.dispatcher.proofs.start_head.Goals as goal

pub returns : goal.returns
returns c = start_by _ _ _ c.start_verdict-verdict.ensures c.begin.ensures
