use mathlib.Core.Path.{sym, ◌∙◌}
use borrow.Author.Tests.{le-ltb, lt-ltb, eq-eqb, ne_eqb}
use Rattle.judge.specs.Rules.{twin}
use Rattle.judge.proofs.twice.PlanView.are_twins.Goals as goal

pub returns-then-r-q : goal.returns-then-r-q
unfolding twin
returns-then-r-q c = simp (le-ltb _ _ c.if-r-q.true)

pub returns-then-v-eq0 : goal.returns-then-v-eq0
unfolding twin
returns-then-v-eq0 c = simp (lt-ltb _ _ c.if-r-q.false, eq-eqb _ _ (sym c.slot_at-v.ensures ∙ c.if-v-eq0.true))

pub returns : goal.returns
unfolding twin
returns c =
    simp (lt-ltb _ _ c.if-r-q.false, ← c.slot_at-v.ensures, ne_eqb _ _ c.if-v-eq0.false, ← c.slot_at.ensures)
