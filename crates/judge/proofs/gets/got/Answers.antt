use native.Mathlib.Omega.{arith}
use native.Mathlib.Nat.{mod-lt}
use Rattle.judge.proofs.LaneLaws.{ask_some, ask_before, ask_far, ask_times, lane_later}
use Rattle.judge.proofs.gets.got.Goals as goal

pub ticks_of_job-requires : goal.ticks_of_job-requires
ticks_of_job-requires c = (c.requires, c.if-k-l.true)

pub returns-then-k-l : goal.returns-then-k-l
returns-then-k-l c = c.ticks_of_job.ensures

pub nonzero_rem-j : goal.nonzero_rem-j
nonzero_rem-j c = omega (arith, ask_some c.requires)

pub overflow_sub-k : goal.overflow_sub-k
overflow_sub-k c = omega (arith, ask_before c.requires c.args.k)

pub overflow_mul-d : goal.overflow_mul-d
overflow_mul-d c = rw (c.from.ensures, c.from-2.ensures) (omega (arith, ask_far c.requires c.ranges.k.fits))

pub ticks_of_job-g-requires : goal.ticks_of_job-g-requires
ticks_of_job-g-requires c = (c.requires, mod-lt _ (ask_some c.requires))

pub overflow_add-result : goal.overflow_add-result
overflow_add-result c = let t = c.requires in
    rw (c.from.ensures, c.from-2.ensures) (omega (arith, ask_far t c.ranges.k.fits, ask_times t (mod-lt _ (ask_some t)) (c.ticks_of_job-g.ensures t)))

pub overflow_add-result-2 : goal.overflow_add-result-2
overflow_add-result-2 c = let t = c.requires in
    rw (c.from.ensures, c.from-2.ensures) (omega (arith, ask_far t c.ranges.k.fits, ask_times t (mod-lt _ (ask_some t)) (c.ticks_of_job-g.ensures t)))

pub returns : goal.returns
returns c = rw (c.from.ensures, c.from-2.ensures) λ t. lane_later t _ (c.ticks_of_job-g.ensures t)
