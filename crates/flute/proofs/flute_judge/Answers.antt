use mathlib.Core.Path.{ap, ◌∙◌}
use Rattle.judge.specs.Answers.{number_of}
use Rattle.flute.proofs.flute_judge.Goals as goal

pub returns : goal.returns
returns c = c.number_of.ensures ∙ ap number_of c.judge_head.ensures
