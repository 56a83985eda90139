use Rattle.judge.specs.Answers.{evidence_of}
use Rattle.flute.specs.Calls.{narrowed}
use Rattle.flute.proofs.flute_judge_evidence.Goals as goal

pub returns : goal.returns
returns c = narrowed evidence_of _ _ c.judge_head.ensures c.evidence_of.ensures c.narrow.ensures
