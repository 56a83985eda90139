use native.Mathlib.Omega.{arith}
use Rattle.kinds.specs.Sound.{opening_fits}
use Rattle.kinds.specs.RangeLaws.{holds_low, holds_high, holds_yes}
use Rattle.std.proofs.Common.{sym, ◌∙◌}
use Rattle.kinds.proofs.opening_fits.Goals as goal

pub returns-then-not-is_within : goal.returns-then-not-is_within
unfolding opening_fits
returns-then-not-is_within c = rw (sym c.is_within.ensures ∙ c.if-not-is_within.true)

pub returns-then-tasks-lt-FEWEST_TASKS : goal.returns-then-tasks-lt-FEWEST_TASKS
unfolding opening_fits
returns-then-tasks-lt-FEWEST_TASKS c = rw (sym c.is_within.ensures ∙ c.if-not-is_within.false, holds_low 1 65 _ c.if-tasks-lt-FEWEST_TASKS.true)

pub returns-then-tasks-gt-MOST_TASKS : goal.returns-then-tasks-gt-MOST_TASKS
unfolding opening_fits
returns-then-tasks-gt-MOST_TASKS c = rw (sym c.is_within.ensures ∙ c.if-not-is_within.false, holds_high 1 65 _ c.if-tasks-gt-MOST_TASKS.true)

pub returns : goal.returns
unfolding opening_fits
returns c =
    rw (
      sym c.is_within.ensures ∙ c.if-not-is_within.false,
      holds_yes 1 65 c.args.tasks (omega arith) (omega arith),
    )
    c.is_within-2.ensures
