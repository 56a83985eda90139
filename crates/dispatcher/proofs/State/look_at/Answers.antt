use mathlib.Core.Path.{◌∙◌}
use Rattle.kinds.specs.Tasks.{view}
use Rattle.kinds.specs.SoundByTests.{counts_none, counts_found}
use Rattle.dispatcher.proofs.StepFacts.{lengths_right}
use Rattle.dispatcher.proofs.LookLaws.{set_10, set_11, set_look, timed_of}
use Rattle.std.proofs.Common.{sym}
use Rattle.dispatcher.proofs.State.look_at.Goals as goal

pub returns-in_default : goal.returns-in_default
returns-in_default c = let a = c.args in set_10 (view a.set) _ _ _ _ (counts_none (view a.set) c.in_default.ensures)

pub lengths_fit-requires : goal.lengths_fit-requires
lengths_fit-requires c = let a = c.args in let t = timed_of (view a.set) (counts_found (view a.set) c.in-Some.ensures) in (t.narrow, t.short)

pub returns-then-not-lengths_fit : goal.returns-then-not-lengths_fit
returns-then-not-lengths_fit c = let a = c.args in set_11 (view a.set) (counts_found (view a.set) c.in-Some.ensures) a.plan.now a.self a.report a.room (sym c.lengths_fit.ensures ∙ c.if-not-lengths_fit.true)

pub look_on-requires : goal.look_on-requires
look_on-requires c = let a = c.args in (timed_of (view a.set) (counts_found (view a.set) c.in-Some.ensures), (lengths_right _ _ _ _ (sym c.lengths_fit.ensures ∙ c.if-not-lengths_fit.false)).0)

pub returns : goal.returns
returns c = let a = c.args in set_look (view a.set) (counts_found (view a.set) c.in-Some.ensures) a.plan.now a.self a.report a.room (sym c.lengths_fit.ensures ∙ c.if-not-lengths_fit.false) c.look_on.ensures
