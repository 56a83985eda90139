use mathlib.Core.Path.{◌∙◌}
use Rattle.dispatcher.specs.Answers.{evidence_of}
use Rattle.flute.specs.Calls.{narrowed, looked, unshown}
use Rattle.flute.proofs.flute_step_evidence.Goals as goal

pub returns : goal.returns
returns c =
    narrowed evidence_of _ _ (unshown _ _ _ c.map.ensures.cases ∙ looked _ _ _ _ _ c.look_head-look.ensures) c.evidence_of.ensures c.narrow.ensures
