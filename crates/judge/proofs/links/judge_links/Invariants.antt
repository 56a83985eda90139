use mathlib.Core.Path.{◌≡◌}
use Rattle.vocabulary.specs.Least.{Seeking}
use Rattle.kinds.specs.Tasks.{pairs_before}
use Rattle.judge.specs.Rules.{broken_pattern}
use Rattle.judge.specs.TableNeeds.{LinkNeeds}
use Rattle.kinds.specs.Build.{tasks_in, patterns_in}
use Rattle.judge.proofs.links.judge_links.Given as goal

abbrev pub invariant-loop-k : goal.invariant-loop-k
invariant-loop-k l = (l.start ≡ pairs_before (patterns_in l.set) l.k)
    × ((w : LinkNeeds l.set.counts.tasks l.set.counts.ticks l.set.tables.now.attributes l.base (patterns_in l.set) l.rows)
    → Seeking (broken_pattern (tasks_in l.set) (patterns_in l.set) w.counted.plan) l.set.counts.patterns l.k)
