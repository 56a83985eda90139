use mathlib.Core.Path.{◌≡◌}
use Prim.Native.Nat.{◌*◌, ◌/◌, ◌≤◌}
use Rattle.vocabulary.specs.Total.{total as sum}
use Rattle.kinds.specs.Tasks.{period, tasks_of}
use Rattle.kinds.proofs.jobs_in.Given as goal

abbrev pub invariant-loop-i : goal.invariant-loop-i
invariant-loop-i l = (l.i ≤ l.n) × (l.total ≡ sum (λ j. l.h / period (tasks_of l.n l.attributes) j) l.i) × (l.total ≤ 6000 * l.i)
