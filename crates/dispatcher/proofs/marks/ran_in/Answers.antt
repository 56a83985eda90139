use native.Mathlib.Omega.{arith}
use Rattle.vocabulary.proofs.Words.{mark_from, mark_on, marked}
use Rattle.dispatcher.specs.Steps.{stands_at}
use Rattle.dispatcher.proofs.marks.ran_in.Goals as goal

pub loop-v-init : goal.loop-v-init
loop-v-init c = mark_from _ _

pub with_mark-r-requires : goal.with_mark-r-requires
with_mark-r-requires c = omega (arith, c.requires.1 _ c.loop-v-test.true)

pub loop-v-preserved : goal.loop-v-preserved
loop-v-preserved c = mark_on _ _ _ _ _ c.loop-v.invariant c.loop-v-test.true c.with_mark-r.ensures.0 c.with_mark-r.ensures.1

pub returns : goal.returns
unfolding stands_at
returns c = marked _ _ _ _ _ c.loop-v.invariant c.loop-v-test.false c.requires.0 c.requires.1
