use native.Mathlib.Omega.{arith}
use mathlib.Core.Path.{◌∙◌}
use mathlib.Core.List.{[]}
use Rattle.judge.proofs.VerdictChain.{few_places, other_length, plan_needs, judged, high_slot_lem, low_slots, fit_slots}
use Rattle.judge.proofs.judge_tables.Goals as goal

pub overflow_mul-set : goal.overflow_mul-set
overflow_mul-set c = omega (arith, few_places _ _ [] c.requires)

pub returns-then-slots-set : goal.returns-then-slots-set
returns-then-slots-set c = other_length _ _ _ c.requires c.if-slots-set.true

pub returns-in-Some : goal.returns-in-Some
returns-in-Some c = high_slot_lem _ _ _ c.in-Some.ensures ∙ judged _ _ _ c.requires c.if-slots-set.false

pub judge_slots-requires : goal.judge_slots-requires
judge_slots-requires c = let a = plan_needs _ _ _ c.requires c.if-slots-set.false in
    (a, fit_slots _ _ _ c.in_default.ensures a, c.requires.jobs)

pub returns : goal.returns
returns c = c.judge_slots.ensures ∙ low_slots _ _ _ c.in_default.ensures ∙ judged _ _ _ c.requires c.if-slots-set.false
