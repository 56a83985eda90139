use native.Mathlib.Omega.{arith}
use lib.ListN.{get_or}
use Rattle.dispatcher.specs.Looks.{tick_on}
use Rattle.kinds.specs.Tasks.{tasks_of}
use Rattle.vocabulary.proofs.Least.{some_least}
use Rattle.dispatcher.proofs.RowLaws.{row_first, row_refused, row_low, slots_low, all_low, shown_low, row_shown}
use Rattle.dispatcher.proofs.State.step_row.Goals as goal

pub returns-in-Some : goal.returns-in-Some
returns-in-Some c = let a = c.args in let p = c.requires in row_refused (tick_on a.f a.attributes.now (λ q. get_or a.row.now q 0) a.at a.self a.report) (row_first a.row.now a.f.tasks a.f.processors p.2 c.in-Some.ensures)

pub overflow_add-result : goal.overflow_add-result
overflow_add-result c = let p = c.requires in omega (arith, p.0.narrow, p.2, p.3, (some_least _ _ _ c.in-Some.ensures).1)

pub shown_row-shown-requires : goal.shown_row-shown-requires
shown_row-shown-requires c = let a = c.args in let p = c.requires in λ q. omega (arith, p.0.few, all_low a.row.now a.f.processors a.f.tasks p.2 (slots_low (tick_on a.f a.attributes.now (λ q. get_or a.row.now q 0) a.at a.self a.report) (row_first a.row.now a.f.tasks a.f.processors p.2 c.in_default.ensures)) q)

pub ran_in-ran-requires : goal.ran_in-ran-requires
ran_in-ran-requires c = let a = c.args in let p = c.requires in (p.0.few, shown_low (tasks_of 0 a.attributes.now) a.self (λ q. get_or a.row.now q 0) c.kept_marks-done.result a.f.tasks c.shown_row-shown.result (all_low a.row.now a.f.processors a.f.tasks p.2 (slots_low (tick_on a.f a.attributes.now (λ q. get_or a.row.now q 0) a.at a.self a.report) (row_first a.row.now a.f.tasks a.f.processors p.2 c.in_default.ensures))) c.shown_row-shown.ensures)

pub returns : goal.returns
returns c = let a = c.args in let p = c.requires in row_shown a.f a.attributes.now a.row.now a.at a.self a.report p.2 p.0.narrow c.kept_marks-done.result c.ran_in-ran.result c.shown_row-shown.result c.kept_marks-done.ensures c.shown_row-shown.ensures c.ran_in-ran.ensures c.after-state.ensures (row_low (tick_on a.f a.attributes.now (λ q. get_or a.row.now q 0) a.at a.self a.report) (row_first a.row.now a.f.tasks a.f.processors p.2 c.in_default.ensures))
