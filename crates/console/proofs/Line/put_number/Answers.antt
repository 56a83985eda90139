use Rattle.console.specs.Lines.{by_words}
use Rattle.console.proofs.Line.put_number.Goals as goal

pub returns : goal.returns
returns c = by_words _ _ c.put.ensures
