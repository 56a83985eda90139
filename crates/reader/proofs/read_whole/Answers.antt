use Rattle.reader.proofs.Ways.{whole_refused, whole_ended, whole_more}
use Rattle.reader.proofs.read_whole.Goals as goal

pub returns-then-at-bytes : goal.returns-then-at-bytes
returns-then-at-bytes c = whole_ended _ _ _ _ c.read_head.ensures c.in-Ok.is c.if-at-bytes.true

pub returns-in_default : goal.returns-in_default
returns-in_default c = whole_refused _ _ _ _ c.read_head.ensures c.in_default.is

pub returns : goal.returns
returns c = whole_more _ _ _ _ c.read_head.ensures c.in-Ok.is c.if-at-bytes.false
