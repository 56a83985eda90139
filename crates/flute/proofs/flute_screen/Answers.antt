use mathlib.Core.Path.{ap, ◌∙◌}
use Rattle.screen.specs.Answers.{finding_number}
use Rattle.flute.proofs.flute_screen.Goals as goal

pub returns : goal.returns
returns c = c.number_of.ensures ∙ ap finding_number c.screen_head.ensures
