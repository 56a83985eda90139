use Rattle.loops.proofs.LentLaws.{lists_cleared}
use Rattle.loops.proofs.clear_lists.Goals as goal

pub returns : goal.returns
returns c = lists_cleared _ _ (c.fill.ensures.after (λ y e. e))
