use Rattle.graph.proofs.SearchRows.{made_from, thread_place, thread_low, made_on, made_end}
use native.Mathlib.Omega.{arith}
use Rattle.loops.proofs.thread.Goals as goal

pub loop-k-init : goal.loop-k-init
loop-k-init c = made_from _ _ _ c.requires

pub slice_copy_out-r : goal.slice_copy_out-r
slice_copy_out-r c = thread_place _ _ _ _ _ _ c.requires c.loop-k.invariant c.loop-k-test.true c.from-a.ensures

pub overflow_cast-next : goal.overflow_cast-next
overflow_cast-next c = omega (arith, thread_low _ _ _ _ _ _ c.requires c.loop-k.invariant c.loop-k-test.true c.from-a.ensures)

pub bounds-next-k : goal.bounds-next-k
bounds-next-k c = omega (arith, c.loop-k.invariant.next_long, c.loop-k-test.true)

pub bounds-jobs-a : goal.bounds-jobs-a
bounds-jobs-a c = thread_place _ _ _ _ _ _ c.requires c.loop-k.invariant c.loop-k-test.true c.from-a.ensures

pub loop-k-preserved : goal.loop-k-preserved
loop-k-preserved c = made_on _ _ _ _ _ _ c.requires c.loop-k.invariant c.loop-k-test.true c.from-a.ensures

pub returns : goal.returns
returns c = made_end _ _ _ _ _ c.loop-k.invariant c.loop-k-test.false
