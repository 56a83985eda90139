use Rattle.writer.proofs.Widths.{width_one, width_two, width_three}
use mathlib.Core.Path.{sym}
use Rattle.writer.proofs.lengths.width.Goals as goal

pub returns-then-v-lt128 : goal.returns-then-v-lt128
returns-then-v-lt128 c = sym (width_one _ c.if-v-lt128.true)

pub returns-then-v-lt16384 : goal.returns-then-v-lt16384
returns-then-v-lt16384 c = sym (width_two _ c.if-v-lt128.false c.if-v-lt16384.true)

pub returns : goal.returns
returns c = sym (width_three _ c.if-v-lt16384.false)
