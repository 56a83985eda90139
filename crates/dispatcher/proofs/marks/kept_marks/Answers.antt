use mathlib.Core.Path.{sym, ◌∙◌}
use Rattle.vocabulary.proofs.Bits.{pack_from, pack_hit, pack_miss, pack_room, packed}
use Rattle.dispatcher.proofs.marks.kept_marks.Goals.{then-keeps_mark, else-keeps_mark}
use Rattle.dispatcher.proofs.marks.kept_marks.Goals as goal

pub loop-i-init : goal.loop-i-init
loop-i-init c = pack_from _ _

pub overflow_add-r : goal.overflow_add-r
overflow_add-r c = record { fits = pack_room _ _ _ _ c.loop-i.invariant c.loop-i-test.true c.requires.0.few }

pub loop-i-preserved : goal.loop-i-preserved
loop-i-preserved c =
    let s = c.loop-i.invariant in
    let l = c.loop-i-test.true in
    let e = sym c.keeps_mark.ensures in
    elim c.if-keeps_mark.branch [
      | then-keeps_mark w ↦ pack_hit _ _ _ _ _ s l c.requires.0.few (e ∙ w.if-keeps_mark.true) w.r-is
      | else-keeps_mark w ↦ pack_miss _ _ _ _ _ s l (e ∙ w.if-keeps_mark.false) w.r-is
    ]

pub returns : goal.returns
returns c = packed _ _ _ _ c.loop-i.invariant c.loop-i-test.false
