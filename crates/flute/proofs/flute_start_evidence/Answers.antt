use Rattle.judge.specs.Answers.{evidence_of}
use Rattle.dispatcher.specs.ForC.{start_for}
use Rattle.flute.specs.Calls.{narrowed}
use Rattle.flute.proofs.flute_start_evidence.Goals as goal

pub returns : goal.returns
unfolding start_for
returns c = narrowed evidence_of _ _ c.start_verdict.ensures c.evidence_of.ensures c.narrow.ensures
