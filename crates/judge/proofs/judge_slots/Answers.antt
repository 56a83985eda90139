use native.Mathlib.Omega.{arith}
use Rattle.judge.proofs.judge_slots.Goals as goal

pub judge_in-requires : goal.judge_in-requires
judge_in-requires c = (c.requires.0, c.requires.1, c.requires.2, c.if-set-le64.true, omega arith)

pub judge_in-requires-2 : goal.judge_in-requires-2
judge_in-requires-2 c = (c.requires.0, c.requires.1, c.requires.2, omega (arith, c.requires.2, c.requires.1.few_jobs), omega arith)
