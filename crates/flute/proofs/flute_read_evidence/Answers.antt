use Rattle.flute.specs.Calls.{read_evidence_lem}
use Rattle.flute.proofs.flute_read_evidence.Goals as goal

pub returns : goal.returns
returns c =
    read_evidence_lem _ _ c.read_outcome.ensures c.evidence_of-place.ensures c.number_at.ensures c.narrow.ensures
