use Rattle.dispatcher.proofs.LookLaws.{no_head, head_timed, head_look}
use Rattle.dispatcher.proofs.look_head.Goals as goal

pub returns-in_default : goal.returns-in_default
returns-in_default c = no_head _ _ _ (rw c.new-tables.ensures at c.read_whole.ensures) _ _ _ _ c.in_default.is

pub look_bytes-requires : goal.look_bytes-requires
look_bytes-requires c = head_timed _ _ _ (rw c.new-tables.ensures at c.read_whole.ensures) c.in-Some.is

pub returns : goal.returns
returns c = head_look _ _ _ (rw c.new-tables.ensures at c.read_whole.ensures) c.in-Some.is _ _ _ _ c.look_bytes.ensures
