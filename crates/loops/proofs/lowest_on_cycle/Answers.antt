use Rattle.loops.specs.LentLinks.{no_lists, no_rows}
use mathlib.Core.Path.{◌∙◌, ap}
use Rattle.loops.proofs.lowest_on_cycle.Goals as goal

pub returns : goal.returns
returns c = (c.find-x.ensures, c.clear_lists.ensures ∙ ap no_lists c.next-1.given, c.clear.ensures ∙ ap no_rows c.jobs-1.given)
