use Rattle.screen.proofs.FoundLaws.{unsound, found_cycle, found_tight, found_nothing}
use Rattle.screen.proofs.Order.{not_sound}
use mathlib.Core.Path.{sym, ap, ◌∙◌}
use Rattle.std.specs.Prelude.{Some}
use Rattle.screen.proofs.finding_of.Goals as goal

pub returns-in_default : goal.returns-in_default
returns-in_default c = λ s e. sym (not_sound s (unsound s (sym c.in_default.is ∙ e)))

pub returns-in-Some-Cycle : goal.returns-in-Some-Cycle
returns-in-Some-Cycle c = λ s e. found_cycle s _ (sym c.in-Some.is ∙ e) _ (c.in-Some-Cycle.is ∙ ap Some (rw c.in-Some-Cycle.is at c.in-Some-Cycle.field-0-is))

pub returns-in-Some-Tight : goal.returns-in-Some-Tight
returns-in-Some-Tight c =
    λ s e. rw (c.or.ensures, c.overload_of.ensures)
    (found_tight s _ (sym c.in-Some.is ∙ e) _ (c.in-Some-Tight.is ∙ ap Some (rw c.in-Some-Tight.is at c.in-Some-Tight.field-0-is)))

pub returns-in-None : goal.returns-in-None
returns-in-None c = λ s e. c.overload_of-in-None.ensures ∙ found_nothing s _ (sym c.in-Some.is ∙ e) c.in-None.is
