use Prim.Native.Nat.{◌*◌, ◌+◌, ◌-◌}
use native.Mathlib.Omega.{arith}
use Rattle.writer.proofs.Turns.{part_at}
use Rattle.writer.proofs.lent.pairs_of.Goals as goal

pub returns : goal.returns
returns c = part_at c.args.pairs.now (2 * c.args.start) (2 * (c.args.start + c.args.n) - 2 * c.args.start) (2 * c.args.n) (omega (arith, c.requires, c.told-pairs)) (omega arith)
