use borrow.Author.Tests.{eq-eqb, ne_eqb, le-leb, lt-leb}
use Rattle.kinds.specs.Sound.{heading_fits}
use Rattle.std.proofs.Common.{sym, ◌∙◌}
use Rattle.kinds.proofs.heading_fits.Goals as goal

pub returns-then-not-is_rising : goal.returns-then-not-is_rising
unfolding heading_fits
returns-then-not-is_rising c = rw (sym c.is_rising.ensures ∙ c.if-not-is_rising.true)

pub returns-then-x-y : goal.returns-then-x-y
unfolding heading_fits
returns-then-x-y c = rw (sym c.is_rising.ensures ∙ c.if-not-is_rising.false, eq-eqb _ _ c.if-x-y.true)

pub returns-then-pairs-lt-FEWEST_PAIRS : goal.returns-then-pairs-lt-FEWEST_PAIRS
unfolding heading_fits
returns-then-pairs-lt-FEWEST_PAIRS c =
    rw (
      sym c.is_rising.ensures ∙ c.if-not-is_rising.false,
      ne_eqb _ _ c.if-x-y.false,
      lt-leb 1 c.args.pairs c.if-pairs-lt-FEWEST_PAIRS.true,
    )

pub returns : goal.returns
unfolding heading_fits
returns c =
    rw (
      sym c.is_rising.ensures ∙ c.if-not-is_rising.false,
      ne_eqb _ _ c.if-x-y.false,
      le-leb 1 c.args.pairs c.if-pairs-lt-FEWEST_PAIRS.false,
    )
