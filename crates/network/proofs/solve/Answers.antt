use Rattle.network.specs.Outcome.{unsolved, solved_as}
use Rattle.kinds.specs.SoundByTests.{counts_none, counts_found, lent_is, lent_found}
use Rattle.network.proofs.solve.Goals as goal

pub returns-in_err-f : goal.returns-in_err-f
returns-in_err-f c = rw c.from_residual.ensures (unsolved _ _ _ (counts_none _ c.in_err-f.ensures))

pub solve_in-found-requires : goal.solve_in-found-requires
solve_in-found-requires c = lent_found _ (counts_found _ c.in_ok-f.ensures)

pub returns : goal.returns
returns c = solved_as _ _ _ _ (lent_is _ (counts_found _ c.in_ok-f.ensures)) c.solve_in-found.ensures
