use mathlib.Core.Path.{refl}
use Rattle.network.specs.Outcome.{load_needs, room_fits, solved_for}
use native.Mathlib.Omega.{arith}
use Rattle.network.proofs.solve_in.Goals as goal

pub load_of-load-requires : goal.load_of-load-requires
load_of-load-requires c = load_needs _ _ c.requires

pub overflow_mul-result : goal.overflow_mul-result
overflow_mul-result c = omega (arith, room_fits _ _ c.requires)

pub returns : goal.returns
returns c = solved_for _ _ c.requires c.solve_sized-trouble.ensures refl c.load_of-load.ensures
