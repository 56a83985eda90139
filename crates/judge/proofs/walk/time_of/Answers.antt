use mathlib.Core.Path.{sym}
use Rattle.laws.proofs.Window.{time_awake, time_asleep}
use Rattle.judge.proofs.walk.time_of.Goals as goal

pub returns-then-o-c : goal.returns-then-o-c
returns-then-o-c c = sym (time_awake _ _ _ c.if-o-c.true)

pub returns : goal.returns
returns c = sym (time_asleep _ _ _ c.if-o-c.false)
