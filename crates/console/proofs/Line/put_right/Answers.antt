use Rattle.console.specs.Lines.{by_words, continues_on, by_byte}
use Rattle.console.proofs.Line.put_right.Goals as goal

pub loop-preserved : goal.loop-preserved
loop-preserved c = continues_on c.loop.invariant (by_byte _ c.put_byte-line.ensures)

pub returns : goal.returns
returns c = continues_on c.loop.invariant (by_words _ _ c.put.ensures)
