use native.Mathlib.Omega.{arith}
use Rattle.vocabulary.proofs.Least.{seek, on, miss}
use Rattle.judge.proofs.LaneLaws.{ask_times}
use Rattle.judge.proofs.CountLaws.{task_room, task_tells, task_no, job_low, wrong_found}
use Rattle.judge.proofs.VerdictChain.{link_needs, none_wrong}
use Rattle.judge.proofs.counts.judge_counts.Goals as goal

pub loop-i-init : goal.loop-i-init
loop-i-init c = λ w. seek _ _

pub lane_of-l-requires : goal.lane_of-l-requires
lane_of-l-requires c = task_room c.requires c.loop-i-test.true

pub wrong_job-requires : goal.wrong_job-requires
wrong_job-requires c = task_tells c.requires c.loop-i-test.true c.lane_of-l.ensures

pub got-g-requires : goal.got-g-requires
got-g-requires c = task_tells c.requires c.loop-i-test.true c.lane_of-l.ensures

pub overflow_cast-result : goal.overflow_cast-result
overflow_cast-result c = omega (arith, task_room c.requires c.loop-i-test.true)

pub overflow_cast-result-in-Some : goal.overflow_cast-result-in-Some
overflow_cast-result-in-Some c =
    let e = c.lane_of-l.ensures in
    let t = task_tells c.requires c.loop-i-test.true e in
    omega (arith, ask_times t (job_low c.requires c.loop-i-test.true e (c.in-Some.ensures t)) (c.got-g.ensures t))

pub overflow_cast-result-in-Some-2 : goal.overflow_cast-result-in-Some-2
overflow_cast-result-in-Some-2 c =
    let e = c.lane_of-l.ensures in
    let t = task_tells c.requires c.loop-i-test.true e in
    omega (arith, ask_times t (job_low c.requires c.loop-i-test.true e (c.in-Some.ensures t)) (c.got-g.ensures t))

pub returns-in-Some : goal.returns-in-Some
returns-in-Some c = λ w.
    let l = c.loop-i-test.true in
    let e = c.lane_of-l.ensures in
    let t = task_tells w l e in
    wrong_found w l e (c.in-Some.ensures t) (c.loop-i.invariant w) (c.got-g.ensures t)

pub loop-i-preserved : goal.loop-i-preserved
loop-i-preserved c = λ w.
    let l = c.loop-i-test.true in
    let e = c.lane_of-l.ensures in
    on _ _ _ (c.loop-i.invariant w) l (task_no w l e (c.in_default.ensures (task_tells w l e)))

pub judge_links-requires : goal.judge_links-requires
judge_links-requires c = let w = c.requires in
    link_needs w (miss _ _ _ (c.loop-i.invariant w) c.loop-i-test.false) c.loop-i-test.false

pub returns : goal.returns
returns c = λ w.
    let e = miss _ _ _ (c.loop-i.invariant w) c.loop-i-test.false in
    none_wrong w e c.loop-i-test.false (c.judge_links.ensures (link_needs w e c.loop-i-test.false))
