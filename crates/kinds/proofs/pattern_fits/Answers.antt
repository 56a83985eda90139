use Rattle.std.specs.Prelude.{refl}
use native.Mathlib.Omega.{arith}
use Rattle.kinds.proofs.PatternWalk.{heading_facts, one_heading, one_pairs, one_fits}
use Rattle.std.proofs.Common.{sym, ◌∙◌}
use Rattle.kinds.proofs.pattern_fits.Goals as goal

pub returns-then-not-heading_fits : goal.returns-then-not-heading_fits
returns-then-not-heading_fits c = one_heading _ _ _ _ _ _ _ (sym c.heading_fits.ensures ∙ c.if-not-heading_fits.true)

pub bounds-tables-p : goal.bounds-tables-p
bounds-tables-p c =
    let f = heading_facts _ _ _ _ _ _ (sym c.heading_fits.ensures ∙ c.if-not-heading_fits.false) in
    omega (arith, f.from_low, c.requires)

pub bounds-tables-p-2 : goal.bounds-tables-p-2
bounds-tables-p-2 c =
    let f = heading_facts _ _ _ _ _ _ (sym c.heading_fits.ensures ∙ c.if-not-heading_fits.false) in
    omega (arith, f.to_low, c.requires)

pub pairs_fit-requires : goal.pairs_fit-requires
pairs_fit-requires c =
    let f = heading_facts _ _ _ _ _ _ (sym c.heading_fits.ensures ∙ c.if-not-heading_fits.false) in
    omega (arith, f.room)

pub returns-then-not-pairs_fit : goal.returns-then-not-pairs_fit
returns-then-not-pairs_fit c =
    one_pairs _ _ _ _ _ _ _ (sym c.heading_fits.ensures ∙ c.if-not-heading_fits.false)
    refl refl c.spans_of-s.ensures refl
    (sym c.pairs_fit.ensures ∙ c.if-not-pairs_fit.true)

pub returns : goal.returns
returns c =
    one_fits _ _ _ _ _ _ _ (sym c.heading_fits.ensures ∙ c.if-not-heading_fits.false)
    refl refl c.spans_of-s.ensures refl
    (sym c.pairs_fit.ensures ∙ c.if-not-pairs_fit.false) c.links_in.ensures
