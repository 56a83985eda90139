use mathlib.Core.Path.{◌∙◌, sym}
use Rattle.network.specs.JobTimes.{not_quick, falls_asked, is_quick}
use Rattle.network.proofs.times.adjust_soon.Goals as goal

pub adjust_rows-requires : goal.adjust_rows-requires
adjust_rows-requires c = c.requires

pub shape_of-jobs-then-not-adjust_rows : goal.shape_of-jobs-then-not-adjust_rows
shape_of-jobs-then-not-adjust_rows c = c.adjust_rows.ensures.sized ∙ sym c.requires.own.sized

pub returns-then-not-adjust_rows : goal.returns-then-not-adjust_rows
returns-then-not-adjust_rows c = not_quick _ _ _ _ _ _ c.adjust_rows.ensures

pub falls-requires : goal.falls-requires
falls-requires c = falls_asked _ _ _ _ _ _ _ c.requires c.adjust_rows.ensures

pub shape_of-jobs : goal.shape_of-jobs
shape_of-jobs c = c.adjust_rows.ensures.sized ∙ sym c.requires.own.sized

pub returns : goal.returns
returns c = is_quick _ _ _ _ _ _ _ _ c.requires c.adjust_rows.ensures c.if-not-adjust_rows.false c.falls.ensures
