use mathlib.Core.Path.{sym, ◌∙◌}
use Rattle.judge.proofs.RowLaws.{row_from_lem, row_few, row_hit, row_on_lem, row_end}
use Rattle.judge.proofs.twice.PlanView.is_row_twice.Goals as goal

pub loop-q-init : goal.loop-q-init
loop-q-init c = row_from_lem _ _

pub slot_at-v-requires : goal.slot_at-v-requires
slot_at-v-requires c = (c.requires.0, c.requires.1, c.loop-q-test.true)

pub has_slot-requires : goal.has_slot-requires
has_slot-requires c = row_few _ _ _ c.requires.0 _ _ c.slot_at-v.ensures

pub returns-then-has_slot : goal.returns-then-has_slot
returns-then-has_slot c =
    sym (row_hit _ _ _ _ _ c.loop-q.invariant c.loop-q-test.true c.slot_at-v.ensures (row_few _ _ _ c.requires.0 _ _ c.slot_at-v.ensures)
    (sym c.has_slot.ensures ∙ c.if-has_slot.true))

pub mark-x-requires : goal.mark-x-requires
mark-x-requires c = row_few _ _ _ c.requires.0 _ _ c.slot_at-v.ensures

pub loop-q-preserved : goal.loop-q-preserved
loop-q-preserved c =
    row_on_lem _ _ _ _ _ c.loop-q.invariant c.loop-q-test.true c.slot_at-v.ensures (row_few _ _ _ c.requires.0 _ _ c.slot_at-v.ensures) _
    (sym c.has_slot.ensures ∙ c.if-has_slot.false) c.mark-x.ensures

pub returns : goal.returns
returns c = sym (row_end _ _ _ _ c.loop-q.invariant c.loop-q-test.false)
