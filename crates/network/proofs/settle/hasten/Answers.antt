use mathlib.Core.Path.{refl}
use Rattle.graph.proofs.JobRows.{raises, not_raises}
use Rattle.graph.proofs.Column.{column_at}
use native.Mathlib.Omega.{arith}
use Rattle.network.proofs.settle.hasten.Goals as goal

pub capped-s-requires : goal.capped-s-requires
capped-s-requires c =
    (omega (arith, column_at 2 c.args.jobs.now c.args.b, c.requires.late), omega (arith, column_at 0 c.args.jobs.now c.args.b, c.requires.light_to))

pub returns-then-p-s : goal.returns-then-p-s
returns-then-p-s c = raises 2 1 _ _ _ c.capped-s.ensures _ refl refl refl c.requires.from c.if-p-s.true

pub returns : goal.returns
returns c = not_raises 2 1 _ _ _ c.capped-s.ensures c.if-p-s.false
