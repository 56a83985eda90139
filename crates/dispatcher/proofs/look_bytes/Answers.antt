use mathlib.Core.Path.{◌∙◌}
use borrow.Author.Tests.{not-true, not-false}
use Rattle.dispatcher.proofs.StepFacts.{lengths_right}
use Rattle.dispatcher.proofs.LookLaws.{wrong_lengths, wrong_bytes, unclear_bytes, clear_bytes}
use Rattle.std.proofs.Common.{sym}
use Rattle.dispatcher.proofs.look_bytes.Goals as goal

pub lengths_fit-requires : goal.lengths_fit-requires
lengths_fit-requires c = let p = c.requires in (p.narrow, p.short)

pub returns-then-not-lengths_fit : goal.returns-then-not-lengths_fit
returns-then-not-lengths_fit c = let a = c.args in wrong_lengths a.f a.attributes.now a.plan.now a.report a.state.now a.room (sym c.lengths_fit.ensures ∙ c.if-not-lengths_fit.true)

pub returns-then-state-ne-BYTES : goal.returns-then-state-ne-BYTES
returns-then-state-ne-BYTES c = let a = c.args in wrong_bytes a.f a.attributes.now a.plan.now a.report a.state.now a.room (sym c.lengths_fit.ensures ∙ c.if-not-lengths_fit.false) c.if-state-ne-BYTES.true

pub returns-then-not-is_clear : goal.returns-then-not-is_clear
returns-then-not-is_clear c = let a = c.args in unclear_bytes a.f a.attributes.now a.plan.now a.report a.state.now a.room (sym c.lengths_fit.ensures ∙ c.if-not-lengths_fit.false) c.if-state-ne-BYTES.false (not-false _ (sym c.is_clear.ensures ∙ c.if-not-is_clear.true))

pub look_on-requires : goal.look_on-requires
look_on-requires c = (c.requires, (lengths_right _ _ _ _ (sym c.lengths_fit.ensures ∙ c.if-not-lengths_fit.false)).0)

pub returns : goal.returns
returns c = let a = c.args in clear_bytes a.f a.attributes.now a.plan.now a.report a.state.now a.room (sym c.lengths_fit.ensures ∙ c.if-not-lengths_fit.false) c.if-state-ne-BYTES.false (not-true _ (sym c.is_clear.ensures ∙ c.if-not-is_clear.false)) c.read.ensures c.look_on.ensures
