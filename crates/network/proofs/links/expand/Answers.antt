use Rattle.network.specs.LinkLists.{bases_asked, wired_asks, wired}
use mathlib.Core.Path.{refl}
use Rattle.network.proofs.links.expand.Goals as goal

pub fill_bases-requires : goal.fill_bases-requires
fill_bases-requires c = bases_asked _ _ c.args.links.now c.requires _ refl

pub put_patterns-requires : goal.put_patterns-requires
put_patterns-requires c = wired_asks _ _ c.args.links.now c.requires _ c.fill_bases.ensures

pub returns : goal.returns
returns c = wired _ _ _ c.requires _ c.fill_bases.ensures _ _ c.put_patterns.ensures
