use Rattle.graph.proofs.RowsFall.{fall_start, fall_end}
use Rattle.graph.proofs.RowsFall.{fall_from, fall_on, fall_all}
use Rattle.vocabulary.proofs.Test.{clash}
use mathlib.Core.Path.{refl}
use Rattle.network.proofs.settle.falls.Goals as goal

pub loop-k-init : goal.loop-k-init
loop-k-init c = fall_from _ _

pub bounds-jobs-from : goal.bounds-jobs-from
bounds-jobs-from c = fall_start _ c.args.jobs.now _ c.requires c.loop-k-test.true c.from.ensures

pub bounds-jobs-from-in-loop-k : goal.bounds-jobs-from-in-loop-k
bounds-jobs-from-in-loop-k c = fall_end _ c.args.jobs.now _ c.requires c.loop-k-test.true c.from-in-loop-k.ensures

pub returns-then-p-q : goal.returns-then-p-q
returns-then-p-q c = λ e. clash e refl

pub loop-k-preserved : goal.loop-k-preserved
loop-k-preserved c = fall_on _ _ _ c.loop-k.invariant c.from.ensures c.from-in-loop-k.ensures c.if-p-q.false

pub returns : goal.returns
returns c = λ e. fall_all _ _ _ c.loop-k.invariant c.loop-k-test.false
