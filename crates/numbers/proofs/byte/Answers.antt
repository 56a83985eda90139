use native.Mathlib.Omega.{arith}
use Rattle.numbers.proofs.byte.Goals as goal

pub returns : goal.returns
returns c = (c.from.ensures, omega (arith, c.from.ensures, c.shared_slice_known-1.given c.args.at))
