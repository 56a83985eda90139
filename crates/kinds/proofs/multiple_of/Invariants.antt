use Prim.Native.Nat.{◌*◌}
use lib.Ieee.{size}
use Rattle.vocabulary.specs.Divisor.{Euclid}
use Rattle.kinds.proofs.multiple_of.Given as goal

abbrev pub invariant-loop-y : goal.invariant-loop-y
invariant-loop-y l = Euclid l.a l.b l.x l.y l.t l.s

-- A turn takes a binary digit at least from the product of the two numbers that are left,
abbrev pub decreases-loop-y : goal.decreases-loop-y
decreases-loop-y l = size (l.x * l.y)
