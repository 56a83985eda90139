use mathlib.Core.Path.{refl, ◌∙◌}
use Rattle.vocabulary.proofs.Table.{fill_from, fill_on, filled_table}
use Rattle.dispatcher.proofs.marks.shown_row.Goals as goal

pub loop-q-init : goal.loop-q-init
loop-q-init c = fill_from _ _ _ _ refl

pub byte_for-requires : goal.byte_for-requires
byte_for-requires c = rw c.byte_in.ensures (c.requires _)

pub loop-q-preserved : goal.loop-q-preserved
loop-q-preserved c = fill_on _ _ _ _ _ _ c.loop-q.invariant c.loop-q-test.true (c.byte_for.ensures ∙ rw c.byte_in.ensures)

pub returns : goal.returns
returns c = filled_table _ _ _ _ _ c.loop-q.invariant c.loop-q-test.false
