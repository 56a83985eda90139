use native.Mathlib.Omega.{arith}
use mathlib.Core.Path.{refl, sym}
use Rattle.judge.proofs.VerdictChain.{fresh_rows}
use Rattle.judge.proofs.judge_in.Goals as goal

pub slice_bounds-judge_rows-end : goal.slice_bounds-judge_rows-end
slice_bounds-judge_rows-end g c = sym (fresh_rows _ _ c.requires.3 refl).long

pub judge_rows-requires : goal.judge_rows-requires
judge_rows-requires g c = (c.requires.0, c.requires.1, fresh_rows _ _ c.requires.3 c.requires.2)

pub returns : goal.returns
returns g c = c.judge_rows.ensures

pub whole_as_front-judge_rows : goal.whole_as_front-judge_rows
whole_as_front-judge_rows g c = (c.requires.3, omega (arith, c.requires.4))
