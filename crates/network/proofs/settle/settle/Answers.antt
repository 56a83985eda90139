use Rattle.graph.proofs.JobRows.{still_ready, rounds_on, rounds_still}
use Rattle.graph.proofs.JobRows.{rounds_from, rounds_at}
use Rattle.vocabulary.proofs.Test.{clash}
use native.Mathlib.Omega.{arith}
use mathlib.Core.Path.{refl, ◌∙◌}
use Rattle.network.proofs.settle.settle.Goals as goal

pub loop-k-init : goal.loop-k-init
loop-k-init c = (omega arith, rounds_from _ _ c.requires)

pub sweep_links-requires : goal.sweep_links-requires
sweep_links-requires c = still_ready _ _ c.requires _ _ c.loop-k.invariant.1

pub shape_of-jobs-then-not-sweep_links : goal.shape_of-jobs-then-not-sweep_links
shape_of-jobs-then-not-sweep_links c = c.sweep_links.ensures.long ∙ c.loop-k.invariant.1.long

pub returns-then-not-sweep_links : goal.returns-then-not-sweep_links
returns-then-not-sweep_links c =
    (λ e. rounds_still _ _ c.requires _ _ c.loop-k.invariant.1 _ _ _ c.sweep_links.ensures c.if-not-sweep_links.true, λ e. clash refl e)

pub loop-k-preserved : goal.loop-k-preserved
loop-k-preserved c = (omega arith, rounds_on _ _ c.requires _ _ c.loop-k.invariant.1 _ _ _ c.sweep_links.ensures)

pub shape_of-jobs : goal.shape_of-jobs
shape_of-jobs c = c.loop-k.invariant.1.long

pub returns : goal.returns
returns c = (λ e. clash e refl, λ e. rounds_at _ _ _ _ _ c.loop-k.invariant.1 c.loop-k.invariant.0 c.loop-k-test.false)
