use Rattle.writer.specs.Answers.{evidence_of}
use Rattle.flute.specs.Calls.{narrowed}
use Rattle.flute.proofs.write.flute_write_evidence.Goals as goal

pub returns : goal.returns
returns c = narrowed evidence_of _ _ c.written_head-w.ensures c.evidence_of.ensures c.narrow.ensures
