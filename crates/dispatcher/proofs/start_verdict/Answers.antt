use Rattle.std.proofs.Common.{sym, ◌∙◌}
use Rattle.dispatcher.proofs.LookLaws.{right_state, wrong_state, no_tasks_lem}
use Rattle.dispatcher.proofs.start_verdict.Goals as goal

pub returns-then-state-eq-BYTES : goal.returns-then-state-eq-BYTES
returns-then-state-eq-BYTES c = right_state _ _ _ c.if-state-eq-BYTES.true c.judge_head.ensures

pub returns-then-is_some : goal.returns-then-is_some
returns-then-is_some c = wrong_state _ _ _ c.if-state-eq-BYTES.false c.take_head.ensures (sym c.is_some.ensures ∙ c.if-is_some.true)

pub returns : goal.returns
returns c = no_tasks_lem _ _ _ c.take_head.ensures (sym c.is_some.ensures ∙ c.if-is_some.false)
