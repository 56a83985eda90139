use native.Mathlib.Omega.{arith}
use mathlib.Core.Path.{sym, ◌∙◌}
use Rattle.judge.proofs.SweepLaws.{sweep_from, sweep_twice, sweep_along, sweep_down, sweep_end}
use Rattle.judge.proofs.walk.sweep.Goals as goal

pub loop-c-init : goal.loop-c-init
loop-c-init c = sweep_from _ _ c.requires.0 _ c.requires.2

pub returns-then-has_slot : goal.returns-then-has_slot
returns-then-has_slot c =
    sweep_twice _ _ c.requires.0 _ _ _ _ _ c.loop-q.invariant c.loop-c-test.true c.loop-q-test.true _ (sym c.has_slot.ensures ∙ c.if-has_slot.true)

pub loop-q-preserved : goal.loop-q-preserved
loop-q-preserved c =
    sweep_along _ _ c.requires.0 _ _ _ _ _ c.loop-q.invariant c.loop-c-test.true c.loop-q-test.true _ _ c.visit.ensures _ c.if-visit.false
    (sym c.has_slot.ensures ∙ c.if-has_slot.false) c.mark-x.ensures (omega arith)

pub loop-c-preserved : goal.loop-c-preserved
loop-c-preserved c = sweep_down _ _ _ _ _ _ _ c.loop-q.invariant c.loop-q-test.false

pub returns : goal.returns
returns c = sweep_end _ _ c.requires.0 _ _ _ _ c.loop-c.invariant c.loop-c-test.false
