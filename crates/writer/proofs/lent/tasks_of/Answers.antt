use Prim.Native.Nat.{◌*◌}
use mathlib.Core.Path.{refl}
use native.Mathlib.Omega.{arith}
use Rattle.writer.proofs.Turns.{part_at}
use Rattle.writer.proofs.lent.tasks_of.Goals as goal

pub returns : goal.returns
returns c = part_at c.args.attributes.now 0 (4 * c.args.n) (4 * c.args.n) (omega (arith, c.requires, c.told-attributes)) refl
