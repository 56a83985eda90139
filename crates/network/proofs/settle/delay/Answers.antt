use mathlib.Core.Path.{refl}
use Rattle.graph.proofs.JobRows.{raises, not_raises}
use Rattle.graph.proofs.Column.{column_at}
use native.Mathlib.Omega.{arith}
use Rattle.network.proofs.settle.delay.Goals as goal

pub capped-s-requires : goal.capped-s-requires
capped-s-requires c = (
  omega (arith, column_at 1 c.args.jobs.now c.args.a, c.requires.early),
  omega (arith, column_at 0 c.args.jobs.now c.args.a, column_at 0 c.args.jobs.now c.args.b, c.requires.light_from, c.requires.light_to),
)

pub returns-then-q-s : goal.returns-then-q-s
returns-then-q-s c = raises 1 2 _ _ _ c.capped-s.ensures _ refl refl refl c.requires.to c.if-q-s.true

pub returns : goal.returns
returns c = not_raises 1 2 _ _ _ c.capped-s.ensures c.if-q-s.false
