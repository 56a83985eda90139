use Rattle.console.specs.Lines.{by_words, continues_on}
use Rattle.console.proofs.Line.put_named.Goals as goal

pub returns : goal.returns
returns c = continues_on (by_words _ _ c.put.ensures) c.put_number.ensures
