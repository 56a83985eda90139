use mathlib.Core.Path.{◌∙◌}
use Rattle.dispatcher.proofs.ByteLoops.{bool_byte_lem, tick_byte, done_byte, ran_byte}
use Rattle.dispatcher.proofs.State.byte_at.Goals as goal

pub returns-then-k-lt4 : goal.returns-then-k-lt4
returns-then-k-lt4 c = c.byte_of.ensures ∙ rw c.from.ensures (tick_byte c.args.self c.args.k c.if-k-lt4.true)

pub returns-then-k-lt5 : goal.returns-then-k-lt5
returns-then-k-lt5 c = c.from-then-k-lt5.ensures ∙ bool_byte_lem c.args.self c.args.k c.if-k-lt4.false c.if-k-lt5.true

pub returns-then-k-lt13 : goal.returns-then-k-lt13
returns-then-k-lt13 c = c.byte_of-then-k-lt13.ensures ∙ done_byte c.args.self c.args.k c.if-k-lt5.false c.if-k-lt13.true

pub returns : goal.returns
returns c = c.byte_of-2.ensures ∙ ran_byte c.args.self c.args.k c.if-k-lt13.false c.requires
