use mathlib.Core.Path.{refl}
use Rattle.loops.proofs.LentLaws.{no_room, not_linked, lowest_in_lem, search_asked}
use Rattle.std.proofs.Common.{sym, ◌∙◌}
use Rattle.loops.proofs.find.Goals as goal

pub returns-then-not-has_room : goal.returns-then-not-has_room
returns-then-not-has_room c = no_room _ _ _ (sym c.has_room.ensures ∙ c.if-not-has_room.true)

pub returns-then-not-all_linked : goal.returns-then-not-all_linked
returns-then-not-all_linked c = not_linked _ _ _ (sym c.has_room.ensures ∙ c.if-not-has_room.false) (sym c.all_linked.ensures ∙ c.if-not-all_linked.true)

pub seek_lowest-requires : goal.seek_lowest-requires
seek_lowest-requires c = search_asked _ _ _ (sym c.has_room.ensures ∙ c.if-not-has_room.false) (sym c.all_linked.ensures ∙ c.if-not-all_linked.false) _ _ refl refl

pub returns : goal.returns
returns c = lowest_in_lem _ _ _ (sym c.has_room.ensures ∙ c.if-not-has_room.false) (sym c.all_linked.ensures ∙ c.if-not-all_linked.false) c.seek_lowest.ensures
