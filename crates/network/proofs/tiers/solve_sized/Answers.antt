use mathlib.Core.Path.{refl}
use Rattle.network.specs.Outcome.{bound_needs, fits_small, fits_large}
use Rattle.network.proofs.tiers.solve_sized.Goals as goal

pub most_links-requires : goal.most_links-requires
most_links-requires c = bound_needs _ _ c.requires

pub solve_tabled-requires-clause-fits : goal.solve_tabled-requires-clause-fits
solve_tabled-requires-clause-fits c = fits_small _ _ c.requires refl c.if-n-le256.true c.most_links.ensures c.if-most_links-le512.true

pub shape_of-releases-then-most_links-le512 : goal.shape_of-releases-then-most_links-le512
shape_of-releases-then-most_links-le512 c = c.solve_tabled.auto.releases

pub shape_of-deadlines-then-most_links-le512 : goal.shape_of-deadlines-then-most_links-le512
shape_of-deadlines-then-most_links-le512 c = c.solve_tabled.auto.deadlines

pub returns-then-most_links-le512 : goal.returns-then-most_links-le512
returns-then-most_links-le512 c = c.solve_tabled.ensures

pub solve_tabled-requires-2-clause-fits : goal.solve_tabled-requires-2-clause-fits
solve_tabled-requires-2-clause-fits c = fits_large _ _ c.requires

pub shape_of-releases : goal.shape_of-releases
shape_of-releases c = c.solve_tabled-2.auto.releases

pub shape_of-deadlines : goal.shape_of-deadlines
shape_of-deadlines c = c.solve_tabled-2.auto.deadlines

pub returns : goal.returns
returns c = c.solve_tabled-2.ensures
