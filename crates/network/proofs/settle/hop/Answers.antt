use Rattle.graph.proofs.JobRows.{hop_on, hopped}
use Rattle.vocabulary.proofs.Test.{clash}
use mathlib.Core.Path.{refl}
use Rattle.network.proofs.settle.hop.Goals as goal

pub hasten-requires : goal.hasten-requires
hasten-requires c = hop_on _ _ _ _ _ c.requires c.delay.ensures

pub returns-then-delay : goal.returns-then-delay
returns-then-delay c = hopped _ _ _ _ _ _ _ _ c.delay.ensures c.hasten.ensures (λ e. clash refl e)

pub hasten-requires-2 : goal.hasten-requires-2
hasten-requires-2 c = hop_on _ _ _ _ _ c.requires c.delay.ensures

pub returns : goal.returns
returns c = hopped _ _ _ _ _ _ _ _ c.delay.ensures c.hasten-2.ensures (λ e. (c.if-delay.false, e))
