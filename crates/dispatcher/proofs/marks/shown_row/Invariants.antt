use lib.ListN.{get_or}
use Rattle.vocabulary.specs.Table.{Filling, is}
use Rattle.dispatcher.specs.Steps.{byte_of}
use Rattle.kinds.specs.Tasks.{tasks_of}
use Rattle.dispatcher.proofs.marks.shown_row.Given as goal

abbrev pub invariant-loop-q : goal.invariant-loop-q
invariant-loop-q l = Filling (is (λ k. byte_of (tasks_of 0 l.attributes) l.s l.done (get_or l.row k 0))) 8 l.q 0 l.shown
