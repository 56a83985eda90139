use Rattle.screen.proofs.FoundLaws.{answered_head}
use Rattle.screen.specs.Findings.{adjusted_of}
use mathlib.Core.Path.{ap₂, ◌∙◌}
use Rattle.screen.proofs.adjust_head.Goals as goal

pub returns : goal.returns
returns c =
    answered_head _ _ _ c.solve_head-f.ensures
    (c.adjusted_of.ensures _ c.solve_head-f.ensures.found ∙ ap₂ (adjusted_of _) c.releases-1.given c.deadlines-1.given)
