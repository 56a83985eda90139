use Rattle.screen.proofs.FoundLaws.{unsound, other_first, other_second, refused_cycle, free_tight, free_none, unrefused}
use Rattle.screen.proofs.Order.{unsound_set}
use mathlib.Core.Path.{sym, ap, ◌∙◌}
use Rattle.std.specs.Prelude.{Some}
use Rattle.screen.proofs.adjusted_of.Goals as goal

pub returns-in_default : goal.returns-in_default
returns-in_default c = λ s e. unsound_set s _ _ (unsound s (sym c.in_default.is ∙ e))

pub returns-then-releases-f : goal.returns-then-releases-f
returns-then-releases-f c = λ s e. other_first s _ (sym c.in-Some.is ∙ e) _ _ c.if-releases-f.true

pub returns-then-deadlines-f : goal.returns-then-deadlines-f
returns-then-deadlines-f c = λ s e. other_second s _ (sym c.in-Some.is ∙ e) _ _ c.if-releases-f.false c.if-deadlines-f.true

pub returns-in-Some-Cycle : goal.returns-in-Some-Cycle
returns-in-Some-Cycle c =
    λ s e. refused_cycle s _ (sym c.in-Some.is ∙ e) _ _ c.if-releases-f.false c.if-deadlines-f.false _
    (c.in-Some-Cycle.is ∙ ap Some (rw c.in-Some-Cycle.is at c.in-Some-Cycle.field-0-is))

pub returns-in-Some-Tight : goal.returns-in-Some-Tight
returns-in-Some-Tight c =
    λ s e. unrefused s _ (sym c.in-Some.is ∙ e) _ _ c.if-releases-f.false c.if-deadlines-f.false
    (free_tight s _ (sym c.in-Some.is ∙ e) _ (c.in-Some-Tight.is ∙ ap Some (rw c.in-Some-Tight.is at c.in-Some-Tight.field-0-is)))

pub returns-in-None : goal.returns-in-None
returns-in-None c =
    λ s e. unrefused s _ (sym c.in-Some.is ∙ e) _ _ c.if-releases-f.false c.if-deadlines-f.false (free_none s _ (sym c.in-Some.is ∙ e) c.in-None.is)
