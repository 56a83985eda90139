use mathlib.Core.Path.{◌≡◌}
use Prim.Native.Nat.{◌<◌, ◌≤◌}
use Rattle.vocabulary.specs.Least.{Passing}
use Rattle.vocabulary.specs.Multiple.{lcm_of}
use Rattle.kinds.specs.Limits.{holds, periods}
use Rattle.kinds.specs.Tasks.{period, tasks_of}
use Rattle.kinds.proofs.ticks_of.Given as goal

abbrev pub invariant-loop-i : goal.invariant-loop-i
invariant-loop-i l = Passing (λ j. holds periods (period (tasks_of l.n l.attributes) j)) l.n l.i × (l.h ≡ lcm_of (λ j. period (tasks_of l.n l.attributes) j) l.i) × (0 < l.h) × (l.h ≤ 6000)
