use Rattle.vocabulary.proofs.Least.{seek, on, found, nowhere}
use Rattle.judge.proofs.LaneLaws.{lane_low, lane_high}
use Rattle.judge.proofs.CountLaws.{miscount_yes, miscount_no}
use Rattle.judge.proofs.counts.wrong_job.Goals as goal

pub loop-k-init : goal.loop-k-init
loop-k-init c = λ t. seek _ _

pub got-g-requires : goal.got-g-requires
got-g-requires c = c.requires

pub returns-then-g-l : goal.returns-then-g-l
returns-then-g-l c = λ t. found _ _ _ (c.loop-k.invariant t) (lane_low t c.loop-k-test.true) (miscount_yes t (c.got-g.ensures t) c.if-g-l.true)

pub loop-k-preserved : goal.loop-k-preserved
loop-k-preserved c = λ t. on _ _ _ (c.loop-k.invariant t) (lane_low t c.loop-k-test.true) (miscount_no t (c.got-g.ensures t) c.if-g-l.false)

pub returns : goal.returns
returns c = λ t. nowhere _ _ _ (c.loop-k.invariant t) (lane_high t c.loop-k-test.false)
