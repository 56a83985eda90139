use mathlib.Core.Path.{refl, sym, ◌∙◌}
use Rattle.vocabulary.specs.Bits.{has}
use Rattle.vocabulary.proofs.Bits.{has_out}
use borrow.Author.Tests.{le-ltb}
use borrow.Author.Rules.{rules}
use Rattle.dispatcher.proofs.leaves.is_marked.Goals as goal

pub returns-then-i-lt64 : goal.returns-then-i-lt64
unfolding has
returns-then-i-lt64 c = refl

pub returns-else-i-lt64 : goal.returns-else-i-lt64
returns-else-i-lt64 c = le-ltb _ _ c.if-i-lt64.false ∙ sym (has_out c.args.x 64 c.args.i (search rules) c.if-i-lt64.false)
