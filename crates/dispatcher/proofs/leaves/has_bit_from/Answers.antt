use Rattle.vocabulary.proofs.Words.{over_word}
use Rattle.dispatcher.proofs.RowLaws.{over_none}
use mathlib.Core.Path.{◌∙◌}
use borrow.Author.Tests.{le-ltb}
use borrow.Author.Rules.{rules}
use Rattle.dispatcher.proofs.leaves.has_bit_from.Goals as goal

pub returns-then-n-lt64 : goal.returns-then-n-lt64
returns-then-n-lt64 c = over_word c.args.x c.args.n

pub returns-else-n-lt64 : goal.returns-else-n-lt64
returns-else-n-lt64 c = le-ltb _ _ c.if-n-lt64.false ∙ over_none c.args.x c.args.n (search rules) c.if-n-lt64.false
