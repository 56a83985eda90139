use native.Mathlib.Omega.{arith}
use Rattle.judge.proofs.LinkTableLaws.{from_period, to_period, whole_is, steps_is}
use Rattle.judge.proofs.links.steps_of.Goals as goal

pub lane_of-from-requires : goal.lane_of-from-requires
lane_of-from-requires c = (c.requires.from_few, c.requires.some_from)

pub lane_of-to-requires : goal.lane_of-to-requires
lane_of-to-requires c = (c.requires.to_few, c.requires.some_to)

pub nonzero_div-result : goal.nonzero_div-result
nonzero_div-result c = omega (arith, from_period _ _ _ _ _ c.lane_of-from.ensures c.lane_of-to.ensures, c.requires.some_from)

pub nonzero_div-result-2 : goal.nonzero_div-result-2
nonzero_div-result-2 c = omega (arith, to_period _ _ _ _ _ c.lane_of-from.ensures c.lane_of-to.ensures, c.requires.some_to)

pub nonzero_div-result-3 : goal.nonzero_div-result-3
nonzero_div-result-3 c = omega (arith, whole_is _ _ _ _ _ c.lane_of-from.ensures c.lane_of-to.ensures c.common_multiple-m.ensures, c.requires.some_whole)

pub returns : goal.returns
returns c = steps_is _ _ _ _ _ c.lane_of-from.ensures c.lane_of-to.ensures c.common_multiple-m.ensures
