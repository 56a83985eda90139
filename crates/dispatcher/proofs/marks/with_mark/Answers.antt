use borrow.Author.Rules.{rules}
use Rattle.vocabulary.proofs.Words.{mark_word, mark_fits, no_mark_lem}
use Rattle.dispatcher.proofs.marks.with_mark.Goals as goal

pub returns-then-v-eq0 : goal.returns-then-v-eq0
returns-then-v-eq0 c = (search rules, λ j. no_mark_lem _ _ j c.if-v-eq0.true)

pub returns : goal.returns
returns c = (mark_fits c.args.marks c.args.v (search rules) c.if-v-eq0.false c.requires, λ j. mark_word _ c.args.v j c.if-v-eq0.false c.requires)
