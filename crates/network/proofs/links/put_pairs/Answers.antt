use Rattle.network.specs.LinkLists.{append_join, append_end, pairs_step, pairs_on}
use native.Mathlib.Omega.{arith}
use Rattle.network.proofs.links.put_pairs.Goals as goal

pub loop-q-init : goal.loop-q-init
loop-q-init c = (omega arith, append_join _ _ _)

pub overflow_add-start : goal.overflow_add-start
overflow_add-start c = omega (arith, c.requires.within, c.loop-q-test.true)

pub put_steps-at-requires : goal.put_steps-at-requires
put_steps-at-requires c = pairs_step _ _ _ _ _ _ _ _ _ c.requires c.loop-q.invariant.1 c.loop-q-test.true c.pair_at-p.ensures.0

pub loop-q-preserved : goal.loop-q-preserved
loop-q-preserved c = (
  omega (arith, c.loop-q-test.true),
  pairs_on _ _ _ _ _ _ _ _ _ c.requires c.loop-q.invariant.1 c.loop-q-test.true c.pair_at-p.ensures.0 _ c.put_steps-at.ensures,
)

pub shape_of-links : goal.shape_of-links
shape_of-links c = c.loop-q.invariant.1.long

pub returns : goal.returns
returns c = append_end _ _ _ _ _ _ _ c.loop-q.invariant.0 c.loop-q-test.false c.loop-q.invariant.1
