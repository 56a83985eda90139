use Rattle.slots.specs.Topped.{Topped}
use Rattle.slots.proofs.highest.Given as goal

abbrev pub invariant-loop-v : goal.invariant-loop-v
invariant-loop-v l = Topped l.slots l.v-index l.r
