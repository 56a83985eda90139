use Rattle.vocabulary.proofs.Least.{seek, on, some_least}
use Rattle.judge.specs.Rules.{mated}
use Rattle.judge.proofs.Searches.{lowest_yes, lowest_no, with_found, with_nowhere}
use Rattle.judge.proofs.twice.PlanView.first_mated.Goals as goal

pub loop-q-init : goal.loop-q-init
loop-q-init c = seek _ _

pub returns-in-Some : goal.returns-in-Some
unfolding mated
returns-in-Some c = with_found _ _ _ _ c.loop-q.invariant c.loop-q-test.true (lowest_yes _ _ c.in-Some.ensures) (some_least _ _ _ c.in-Some.ensures).0

pub loop-q-preserved : goal.loop-q-preserved
unfolding mated
loop-q-preserved c = on _ _ _ c.loop-q.invariant c.loop-q-test.true (lowest_no _ _ c.in_default.ensures)

pub returns : goal.returns
returns c = with_nowhere _ _ _ _ c.loop-q.invariant c.loop-q-test.false
