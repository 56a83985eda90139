use Rattle.loops.proofs.LentLaws.{cleared}
use Rattle.graph.proofs.SearchRows.{thread_asked, seek_asked, sought}
use Rattle.loops.proofs.seek_lowest.Goals as goal

pub thread-requires : goal.thread-requires
thread-requires c = thread_asked _ _ _ _ c.requires (cleared _ _ c.clear.ensures)

pub seek-requires : goal.seek-requires
seek-requires c = seek_asked _ _ _ _ _ _ c.requires (cleared _ _ c.clear.ensures) c.thread.ensures

pub returns : goal.returns
returns c = sought _ _ _ _ _ _ c.requires (cleared _ _ c.clear.ensures) c.thread.ensures c.seek.ensures
