use Rattle.std.specs.Prelude.{◌≡◌, None}
use Rattle.std.proofs.Common.{◌∙◌, arith}
use Rattle.kinds.specs.SoundByTests.{counts_no_cycle, counts_cycle}
use Rattle.kinds.proofs.counts_of.Goals as goal

pub returns-in_err-cycle : goal.returns-in_err-cycle
returns-in_err-cycle c = let gone : c.from_residual.result ≡ None = grind arith in gone ∙ counts_no_cycle _ c.in_err-cycle.ensures

pub returns : goal.returns
returns c = counts_cycle _ c.in_ok-cycle.ensures
