use Rattle.reader.proofs.WholeLaws.{whole_found}
use Rattle.network.specs.Outcome.{unsolved_head, solved_head}
use Rattle.network.proofs.solve_head.Goals as goal

pub returns-in_err-f : goal.returns-in_err-f
returns-in_err-f c = rw c.from_residual.ensures (unsolved_head _ _ _ _ _ (rw c.new-tables.ensures at c.read_whole.ensures) c.in_err-f.was)

pub solve_in-found-requires : goal.solve_in-found-requires
solve_in-found-requires c = whole_found _ _ _ (rw c.new-tables.ensures at c.read_whole.ensures) c.in_ok-f.was

pub returns : goal.returns
returns c = solved_head _ _ _ _ _ (rw c.new-tables.ensures at c.read_whole.ensures) c.in_ok-f.was c.solve_in-found.ensures
