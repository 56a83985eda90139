use mathlib.Core.Path.{ap}
use Rattle.judge.specs.declared.Verdict.TheVariants as verdict
use Rattle.dispatcher.specs.declared.State.{State}
use Rattle.dispatcher.specs.Refusals.{on_verdict}
use Rattle.dispatcher.proofs.Tags.{not_accepted}
use Rattle.dispatcher.proofs.LookLaws.{started_by}
use Rattle.dispatcher.proofs.State.start.Goals as goal

pub returns-in-Accepted : goal.returns-in-Accepted
unfolding on_verdict
returns-in-Accepted c = started_by _ _ _ c.judge-verdict.ensures (rw c.in-Accepted.is (ap (λ (s : State). record { verdict = verdict.Accepted; state = s }) c.new.ensures))

pub returns-in_default : goal.returns-in_default
returns-in_default c = started_by _ _ _ c.judge-verdict.ensures (ap (λ (s : State). record { verdict = c.judge-verdict.result; state = s }) (not_accepted c.judge-verdict.result _ c.args.self c.in_default.not-Accepted))
