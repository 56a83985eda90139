use Rattle.vocabulary.specs.Least.{Seeking}
use Rattle.judge.specs.Rules.{broken_pair}
use Rattle.judge.specs.TableNeeds.{PatternOf}
use Rattle.judge.proofs.links.broken_pair.Given as goal

abbrev pub invariant-loop-q : goal.invariant-loop-q
invariant-loop-q l = (w : PatternOf l.pairs l.rows l.g l.start l.n) → Seeking (broken_pair w.tasks w.patterns w.plan w.pattern) l.n l.q
