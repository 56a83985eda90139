use Rattle.vocabulary.specs.Least.{Seeking}
use Rattle.kinds.specs.Build.{tasks_in, patterns_in}
use Rattle.judge.specs.Rules.{miscounted}
use Rattle.judge.specs.TableNeeds.{Counted}
use Rattle.judge.proofs.counts.judge_counts.Given as goal

abbrev pub invariant-loop-i : goal.invariant-loop-i
invariant-loop-i l = (w : Counted l.set.counts.tasks l.set.counts.ticks l.set.tables.now.attributes l.base (patterns_in l.set) l.rows)
    → Seeking (miscounted (tasks_in l.set) w.plan) l.set.counts.tasks l.i
