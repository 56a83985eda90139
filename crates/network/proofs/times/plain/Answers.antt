use mir.ValLaws.{to_z_pos}
use mir.Syntax.{w32}
use native.Mathlib.Omega.{arith}
use Rattle.network.proofs.times.plain.Goals as goal

pub returns : goal.returns
returns c = to_z_pos w32 c.args.x (omega arith)
