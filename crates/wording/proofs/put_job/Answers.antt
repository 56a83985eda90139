use Rattle.console.specs.Lines.{by_words, continues_on}
use Rattle.wording.proofs.put_job.Goals as goal

pub returns : goal.returns
returns c = continues_on (continues_on c.put_named.ensures c.put_named-2.ensures) (by_words _ _ c.put.ensures)
