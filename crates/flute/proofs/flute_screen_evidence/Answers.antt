use Rattle.screen.specs.Answers.{finding_evidence}
use Rattle.flute.specs.Calls.{narrowed}
use Rattle.flute.proofs.flute_screen_evidence.Goals as goal

pub returns : goal.returns
returns c = narrowed finding_evidence _ _ c.screen_head.ensures c.evidence_of.ensures c.narrow.ensures
