use native.Mathlib.Omega.{arith}
use mathlib.Core.Path.{◌∙◌}
use Rattle.judge.proofs.VerdictChain.{twice_none, twice_low, twice_pair, twice_few, twice_some}
use Rattle.judge.proofs.twice.PlanView.judge_twice.Goals as goal

pub returns-in_err-c : goal.returns-in_err-c
returns-in_err-c c = c.from_residual.ensures ∙ twice_none _ c.in_err-c.ensures

pub first_mated-requires : goal.first_mated-requires
first_mated-requires c = (c.requires.0, twice_low _ c.in_ok-c.ensures)

pub returns-in_err-q : goal.returns-in_err-q
returns-in_err-q c =
    absurd (twice_pair _ c.in_ok-c.ensures c.in_err-q.ensures)

pub overflow_cast-result : goal.overflow_cast-result
overflow_cast-result c =
    omega (arith, twice_few _ c.in_ok-c.ensures c.in_ok-q.ensures, c.requires.1)

pub overflow_cast-result-2 : goal.overflow_cast-result-2
overflow_cast-result-2 c =
    omega (arith, twice_few _ c.in_ok-c.ensures c.in_ok-q.ensures, c.requires.1)

pub returns : goal.returns
returns c = twice_some _ c.in_ok-c.ensures c.in_ok-q.ensures
