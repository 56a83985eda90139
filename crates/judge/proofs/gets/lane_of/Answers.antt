use mathlib.Core.List.{[]}
use native.Mathlib.Omega.{arith}
use Rattle.judge.proofs.LaneLaws.{lane_some_period, lane_made}
use Rattle.judge.proofs.gets.lane_of.Goals as goal

pub nonzero_div-result : goal.nonzero_div-result
nonzero_div-result c = omega (arith, lane_some_period 0 _ [] _ c.requires.0 c.task_at-task.ensures c.requires.1)

pub returns : goal.returns
returns c = lane_made _ _ _ _ c.requires.0 c.task_at-task.ensures
