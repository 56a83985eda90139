use native.Mathlib.Omega.{arith}
use mathlib.Core.Path.{refl}
use Rattle.judge.proofs.LaneLaws.{ask_here, ask_release, lane_none, lane_some}
use Rattle.judge.proofs.gets.ticks_of_job.Goals as goal

pub overflow_add-count : goal.overflow_add-count
overflow_add-count c = omega (arith, ask_here c.requires.0 c.requires.1)

pub bounds-rows-l : goal.bounds-rows-l
bounds-rows-l c = omega (arith, ask_here c.requires.0 c.requires.1)

pub returns-then-count-eq0 : goal.returns-then-count-eq0
returns-then-count-eq0 c = rw c.from-o.ensures λ t. lane_none t c.requires.1 refl c.if-count-eq0.true

pub returns : goal.returns
returns c = rw (c.from.ensures, c.from-2.ensures) λ t. lane_some t c.requires.1 refl c.if-count-eq0.false

pub overflow_mul-k : goal.overflow_mul-k
overflow_mul-k c = omega (arith, ask_release c.requires.0 c.requires.1)

pub overflow_add-l : goal.overflow_add-l
overflow_add-l c = omega (arith, ask_release c.requires.0 c.requires.1)

pub bounds-rows-l-2 : goal.bounds-rows-l-2
bounds-rows-l-2 c = omega (arith, ask_here c.requires.0 c.requires.1)

pub bounds-rows-l-3 : goal.bounds-rows-l-3
bounds-rows-l-3 c = omega (arith, ask_here c.requires.0 c.requires.1)
