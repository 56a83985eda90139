use lib.ListN.{get_or}
use Rattle.vocabulary.specs.Words.{Marking}
use Rattle.dispatcher.proofs.marks.ran_in.Given as goal

abbrev pub invariant-loop-v : goal.invariant-loop-v
invariant-loop-v l = Marking (λ k. get_or l.row k 0) 8 l.v-index l.r
