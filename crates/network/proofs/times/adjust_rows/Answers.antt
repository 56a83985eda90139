use mathlib.Core.Path.{◌∙◌, sym}
use Rattle.network.specs.JobTimes.{own_ready, adjusts}
use Rattle.network.proofs.times.adjust_rows.Goals as goal

pub own_times-requires : goal.own_times-requires
own_times-requires c = c.requires.own

pub settle-requires : goal.settle-requires
settle-requires c = own_ready _ _ _ _ _ c.requires c.own_times.ensures

pub shape_of-jobs : goal.shape_of-jobs
shape_of-jobs c = c.settle.auto.jobs ∙ c.own_times.ensures.sized ∙ sym c.requires.own.sized

pub returns : goal.returns
returns c = adjusts _ _ _ _ _ _ _ _ c.requires c.own_times.ensures c.settle.ensures
