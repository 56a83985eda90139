use Rattle.std.specs.Prelude.{◌≡◌, None}
use Rattle.std.proofs.Common.{◌∙◌, arith}
use mathlib.Core.Path.{subst}
use Prim.Native.Nat.{ℕ, ◌<◌}
use Rattle.vocabulary.proofs.Least.{all_at}
use Rattle.kinds.specs.RangeLaws.{holds_at, ticks_some, cycle_many, cycle_none, cycle_over, cycle_some, jobs_is}
use Rattle.kinds.proofs.cycle_of.Goals as goal

pub returns-then-n-gt-MOST_TASKS : goal.returns-then-n-gt-MOST_TASKS
returns-then-n-gt-MOST_TASKS c = cycle_many _ c.if-n-gt-MOST_TASKS.true

pub returns-in_err-ticks : goal.returns-in_err-ticks
returns-in_err-ticks c = let gone : c.from_residual.result ≡ None = grind arith in gone ∙ cycle_none _ c.in_err-ticks.ensures

pub jobs_in-jobs-requires : goal.jobs_in-jobs-requires
jobs_in-jobs-requires c =
    let t = ticks_some _ c.in_ok-ticks.ensures in
    (c.if-n-gt-MOST_TASKS.false, t.2, λ i l. (holds_at 1 6001 _ (all_at _ _ t.0 i l)).0)

pub returns-then-jobs-gt-MOST_JOBS : goal.returns-then-jobs-gt-MOST_JOBS
returns-then-jobs-gt-MOST_JOBS c =
    let t = ticks_some _ c.in_ok-ticks.ensures in
    cycle_over _ (subst (λ (x : ℕ). 2048 < x) (c.jobs_in-jobs.ensures ∙ jobs_is _ t.1) c.if-jobs-gt-MOST_JOBS.true)

pub returns : goal.returns
returns c =
    let t = ticks_some _ c.in_ok-ticks.ensures in
    cycle_some _ c.if-n-gt-MOST_TASKS.false t.0 t.1 t.2 (c.jobs_in-jobs.ensures ∙ jobs_is _ t.1) c.if-jobs-gt-MOST_JOBS.false
