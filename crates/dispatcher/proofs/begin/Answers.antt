use Rattle.dispatcher.proofs.LookLaws.{first_written}
use Rattle.dispatcher.specs.ForC.{first_bytes}
use Rattle.dispatcher.proofs.Tags.{not_accepted}
use Rattle.dispatcher.proofs.begin.Goals as goal

pub returns-in-Accepted : goal.returns-in-Accepted
returns-in-Accepted c = first_written _ c.in-Accepted.is c.new.ensures c.write.ensures

pub returns-in_default : goal.returns-in_default
unfolding first_bytes
returns-in_default c = not_accepted _ _ _ c.in_default.not-Accepted
