use Rattle.screen.specs.Answers.{adjusted_evidence}
use Rattle.flute.specs.Calls.{narrowed}
use Rattle.flute.proofs.adjust.flute_adjust_evidence.Goals as goal

pub returns : goal.returns
returns c = narrowed adjusted_evidence _ _ c.adjusted_head-a.ensures c.adjusted_evidence_of.ensures c.narrow.ensures
