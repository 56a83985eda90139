use Rattle.network.specs.JobTimes.{cycle_asked, worked_cycle, solved_low, worked_none, tight_asked, worked_tight}
use mathlib.Core.Path.{sym, ◌∙◌}
use Rattle.network.proofs.times.solve_in.Goals as goal

pub job_at-j-requires : goal.job_at-j-requires
job_at-j-requires c = cycle_asked _ _ _ _ _ _ c.requires _ (rw c.in-Some.is at c.solve.ensures)

pub returns-in-Some : goal.returns-in-Some
returns-in-Some c = worked_cycle _ _ _ _ (rw c.in-Some.is at c.solve.ensures) c.job_at-j.ensures _ _

pub put_times-requires : goal.put_times-requires
put_times-requires c = solved_low _ _ _ (rw c.in_default.is at c.solve.ensures)

pub first_over-requires : goal.first_over-requires
first_over-requires c = solved_low _ _ _ (rw c.in_default.is at c.solve.ensures)

pub returns-in_err-y : goal.returns-in_err-y
returns-in_err-y c =
    rw c.from_residual.ensures (worked_none _ _ _ (rw c.in_default.is at c.solve.ensures) _ _ _ _ c.put_times.ensures
    (sym c.in_err-y.was ∙ c.first_over.ensures))

pub job_at-j-requires-2 : goal.job_at-j-requires-2
job_at-j-requires-2 c =
    tight_asked _ _ _ _ _ _ c.requires (rw c.in_default.is at c.solve.ensures) _ (sym c.in_ok-y.was ∙ c.first_over.ensures)

pub returns : goal.returns
returns c =
    worked_tight _ _ _ (rw c.in_default.is at c.solve.ensures) _ _ _ _ c.put_times.ensures _ (sym c.in_ok-y.was ∙ c.first_over.ensures)
    c.job_at-j-2.ensures
