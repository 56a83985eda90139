use mathlib.Core.Path.{◌≡◌}
use Prim.Native.Nat.{◌≤◌, ◌-◌}
use Rattle.heads.specs.Tables.{tasks_from}
use Rattle.heads.proofs.read_tasks.Given as goal

abbrev pub invariant-loop-i : goal.invariant-loop-i
invariant-loop-i l = (l.i ≤ l.n) × (tasks_from l.file (l.n - l.i) l.i l.at l.attributes ≡ tasks_from l.file l.n 0 l.start l.initial.attributes)
