use Rattle.console.specs.Lines.{by_words, continues_on}
use Rattle.wording.proofs.put_counted.Goals as goal

pub returns-then-n-eq1 : goal.returns-then-n-eq1
returns-then-n-eq1 c = continues_on c.put_number.ensures (by_words _ _ c.put-counted.ensures)

pub returns : goal.returns
returns c = continues_on (continues_on c.put_number.ensures (by_words _ _ c.put-counted.ensures)) (by_words _ _ c.put.ensures)
