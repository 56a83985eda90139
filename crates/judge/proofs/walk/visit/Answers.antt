use native.Mathlib.Omega.{arith}
use mathlib.Core.Path.{refl}
use Rattle.judge.proofs.Visit.{job_some, job_none, visit_idle, visit_tick, visit_low, slot_low, task_fit, visit_out, visit_note, walk_room}
use Rattle.judge.proofs.walk.visit.Goals as goal

pub bounds-slots-e : goal.bounds-slots-e
bounds-slots-e c = omega (arith, c.requires.0.long, c.requires.2)

pub returns-then-v-eq0 : goal.returns-then-v-eq0
returns-then-v-eq0 c = visit_idle _ _ _ c.requires.0 c.requires.1 _ _ c.requires.2 c.from-v.ensures _ c.requires.4 c.if-v-eq0.true

pub offset_bounds-base-i : goal.offset_bounds-base-i
offset_bounds-base-i c = omega (arith, slot_low _ _ _ c.requires.0 c.requires.1 _ _ c.requires.2 c.from-v.ensures c.if-v-eq0.false, c.requires.0.few_tasks)

pub bounds-base-i : goal.bounds-base-i
bounds-base-i c = omega (arith, slot_low _ _ _ c.requires.0 c.requires.1 _ _ c.requires.2 c.from-v.ensures c.if-v-eq0.false, c.requires.0.few_tasks)

pub job_at-requires : goal.job_at-requires
job_at-requires c = let g = task_fit _ _ _ c.requires.0 c.requires.1 _ _ c.requires.2 c.from-v.ensures c.if-v-eq0.false c.task_at-t.ensures in
    (c.requires.0.low_cycle, visit_tick _ _ _ c.requires.0 c.requires.1 _ _ c.requires.2 c.from-v.ensures _ c.requires.3, g.0, g.1, g.2)

pub returns-in_default : goal.returns-in_default
returns-in_default c = visit_out _ _ _ c.requires.0 c.requires.1 _ _ c.requires.2 c.from-v.ensures c.if-v-eq0.false c.task_at-t.ensures _ 2048 2048 c.requires.3
    (job_none _ _ _ _ c.in_default.ensures) refl _ c.requires.4 _ refl

pub time_of-requires : goal.time_of-requires
time_of-requires c = (c.requires.0.low_cycle, visit_tick _ _ _ c.requires.0 c.requires.1 _ _ c.requires.2 c.from-v.ensures _ c.requires.3)

pub note-requires : goal.note-requires
note-requires c =
    let l = visit_low _ _ _ c.requires.0 c.requires.1 _ _ c.requires.2 c.from-v.ensures c.if-v-eq0.false c.task_at-t.ensures _ c.requires.3 c.in-Some.ensures in
    (omega (arith, l, c.requires.4.noted.long), walk_room _ _ c.requires.0 _ _ c.requires.4 c.requires.2 _ (omega (arith, l, c.requires.4.noted.long)))

pub returns : goal.returns
returns c =
    let l = visit_low _ _ _ c.requires.0 c.requires.1 _ _ c.requires.2 c.from-v.ensures c.if-v-eq0.false c.task_at-t.ensures _ c.requires.3 c.in-Some.ensures in
    visit_note _ _ _ c.requires.0 c.requires.1 _ _ c.requires.2 c.from-v.ensures c.if-v-eq0.false c.task_at-t.ensures _ _ _ c.requires.3
    (job_some _ _ _ _ c.in-Some.ensures).0 refl _ c.requires.4 _ _ (omega (arith, l, c.requires.4.noted.long)) c.time_of.ensures c.note.ensures
