use Rattle.network.specs.JobTimes.{solved_soon, solved_cycle, rounds_asked, solved_late}
use mathlib.Core.Path.{◌∙◌, sym}
use Rattle.network.proofs.times.solve.Goals as goal

pub adjust_soon-requires : goal.adjust_soon-requires
adjust_soon-requires c = c.requires.rounds

pub shape_of-jobs-then-adjust_soon : goal.shape_of-jobs-then-adjust_soon
shape_of-jobs-then-adjust_soon c = c.adjust_soon.ensures.sized ∙ sym c.requires.rounds.own.sized

pub returns-then-adjust_soon : goal.returns-then-adjust_soon
returns-then-adjust_soon c = solved_soon _ _ _ _ _ _ _ c.requires c.adjust_soon.ensures c.if-adjust_soon.true

pub shape_of-next-in-Some : goal.shape_of-next-in-Some
shape_of-next-in-Some c = c.lowest_on_cycle.auto.next

pub shape_of-jobs-in-Some : goal.shape_of-jobs-in-Some
shape_of-jobs-in-Some c = c.lowest_on_cycle.auto.jobs ∙ c.adjust_soon.ensures.sized ∙ sym c.requires.rounds.own.sized

pub returns-in-Some : goal.returns-in-Some
returns-in-Some c = solved_cycle _ _ _ _ _ _ _ c.requires c.adjust_soon.ensures _ c.lowest_on_cycle.auto.jobs c.in-Some.ensures.0

pub adjust_rows-requires : goal.adjust_rows-requires
adjust_rows-requires c = rounds_asked _ _ _ _ _ _ _ c.requires c.adjust_soon.ensures _ c.lowest_on_cycle.auto.jobs

pub shape_of-next : goal.shape_of-next
shape_of-next c = c.lowest_on_cycle.auto.next

pub shape_of-jobs : goal.shape_of-jobs
shape_of-jobs c = c.adjust_rows.ensures.sized ∙ sym c.requires.rounds.own.sized

pub returns : goal.returns
returns c = solved_late _ _ _ _ _ _ _ c.requires c.adjust_soon.ensures _ c.lowest_on_cycle.auto.jobs c.in_default.ensures.0 _ _ c.adjust_rows.ensures
