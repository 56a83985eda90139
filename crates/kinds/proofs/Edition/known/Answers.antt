use Rattle.std.proofs.Common.{arith}
use Rattle.kinds.specs.RangeLaws.{edition_first, edition_second, edition_other}
use Rattle.kinds.proofs.Edition.known.Goals as goal

pub returns-in-1 : goal.returns-in-1
returns-in-1 c = edition_first _ c.in-1.is

pub returns-in-2 : goal.returns-in-2
returns-in-2 c = edition_second _ c.in-2.is

pub returns-in_default : goal.returns-in_default
returns-in_default c = edition_other _ (λ e. omega arith) (λ e. omega arith)
