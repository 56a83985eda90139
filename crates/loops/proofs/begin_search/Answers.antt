use Rattle.graph.proofs.SearchRows.{begun, begin_room}
use Rattle.graph.proofs.SearchRows.{begun}
use Rattle.loops.proofs.begin_search.Goals as goal

pub slice_copy_out-q : goal.slice_copy_out-q
slice_copy_out-q c = begin_room _ _ c.requires

pub bounds-jobs-0 : goal.bounds-jobs-0
bounds-jobs-0 c = begin_room _ _ c.requires

pub returns : goal.returns
returns c = begun _ _
