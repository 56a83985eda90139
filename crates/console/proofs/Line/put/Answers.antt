use Rattle.std.proofs.Common.{rules, refl, arith}
use Rattle.console.specs.Lines.{put_first, put_on}
use Rattle.console.proofs.Line.put.Goals as goal

pub loop-x-init : goal.loop-x-init
unfolding put_first
loop-x-init c = (search rules, refl)

pub loop-x-preserved : goal.loop-x-preserved
loop-x-preserved c = (omega arith, put_on _ _ _ c.loop-x.invariant.1 c.put_byte-line.ensures)
