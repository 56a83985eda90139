use Rattle.std.specs.Prelude.{◌≡◌, None}
use Rattle.std.proofs.Common.{sym, ◌∙◌, arith}
use Rattle.kinds.specs.SoundByTests.{few_tasks, not_opening, not_tasks, not_cycle, not_patterns_few, patterns_asked, not_patterns, too_many, all_in, no_cycle_lem}
use Rattle.kinds.proofs.sound_cycle.Goals as goal

pub returns-then-not-opening_fits : goal.returns-then-not-opening_fits
returns-then-not-opening_fits c = no_cycle_lem _ (not_opening _ (sym c.opening_fits.ensures ∙ c.if-not-opening_fits.true))

pub tasks_fit-requires : goal.tasks_fit-requires
tasks_fit-requires c = few_tasks _ _ _ (sym c.opening_fits.ensures ∙ c.if-not-opening_fits.false)

pub returns-then-not-tasks_fit : goal.returns-then-not-tasks_fit
returns-then-not-tasks_fit c = no_cycle_lem _ (not_tasks _ (sym c.opening_fits.ensures ∙ c.if-not-opening_fits.false) (sym c.tasks_fit.ensures ∙ c.if-not-tasks_fit.true))

pub returns-in_err-c : goal.returns-in_err-c
returns-in_err-c c = let gone : c.from_residual.result ≡ None = grind arith in gone ∙ no_cycle_lem _ (not_cycle _ (sym c.opening_fits.ensures ∙ c.if-not-opening_fits.false) (sym c.tasks_fit.ensures ∙ c.if-not-tasks_fit.false) c.in_err-c.ensures)

pub returns-then-k-gt-MOST_PATTERNS : goal.returns-then-k-gt-MOST_PATTERNS
returns-then-k-gt-MOST_PATTERNS c = no_cycle_lem _ (not_patterns_few _ (sym c.opening_fits.ensures ∙ c.if-not-opening_fits.false) (sym c.tasks_fit.ensures ∙ c.if-not-tasks_fit.false) c.in_ok-c.ensures c.if-k-gt-MOST_PATTERNS.true)

pub patterns_fit-requires : goal.patterns_fit-requires
patterns_fit-requires c = patterns_asked _ (sym c.opening_fits.ensures ∙ c.if-not-opening_fits.false) (sym c.tasks_fit.ensures ∙ c.if-not-tasks_fit.false) c.in_ok-c.ensures c.if-k-gt-MOST_PATTERNS.false

pub returns-in_err-links : goal.returns-in_err-links
returns-in_err-links c = let gone : c.from_residual-in_err-links.result ≡ None = grind arith in gone ∙ no_cycle_lem _ (not_patterns _ (sym c.opening_fits.ensures ∙ c.if-not-opening_fits.false) (sym c.tasks_fit.ensures ∙ c.if-not-tasks_fit.false) c.in_ok-c.ensures c.if-k-gt-MOST_PATTERNS.false c.in_err-links.ensures)

pub returns-then-links-gt-MOST_LINKS : goal.returns-then-links-gt-MOST_LINKS
returns-then-links-gt-MOST_LINKS c = no_cycle_lem _ (too_many _ (sym c.opening_fits.ensures ∙ c.if-not-opening_fits.false) (sym c.tasks_fit.ensures ∙ c.if-not-tasks_fit.false) c.in_ok-c.ensures c.if-k-gt-MOST_PATTERNS.false c.in_ok-links.ensures c.if-links-gt-MOST_LINKS.true)

pub returns : goal.returns
returns c = all_in _ (sym c.opening_fits.ensures ∙ c.if-not-opening_fits.false) (sym c.tasks_fit.ensures ∙ c.if-not-tasks_fit.false) c.in_ok-c.ensures c.if-k-gt-MOST_PATTERNS.false c.in_ok-links.ensures c.if-links-gt-MOST_LINKS.false
