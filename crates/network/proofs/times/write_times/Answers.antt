use Rattle.vocabulary.proofs.Table.{fill_from, fill_on, filled_table}
use mathlib.Core.Path.{◌∙◌}
use mir.Syntax.{w32}
use mir.ValLaws.{to_z-of_z}
use native.Mathlib.Omega.{arith}
use Rattle.network.proofs.times.write_times.Goals as goal

pub loop-x-init : goal.loop-x-init
loop-x-init c = (fill_from _ _ _ _ c.requires.first, fill_from _ _ _ _ c.requires.second)

pub plain-a-requires : goal.plain-a-requires
plain-a-requires c = c.requires.low.early _ c.loop-x-test.true

pub bounds-releases-x : goal.bounds-releases-x
bounds-releases-x c = omega (arith, c.loop-x.invariant.0.long, c.loop-x-test.true)

pub left_of-z-requires : goal.left_of-z-requires
left_of-z-requires c = c.requires.low.late _ c.loop-x-test.true

pub bounds-deadlines-x : goal.bounds-deadlines-x
bounds-deadlines-x c = omega (arith, c.loop-x.invariant.1.long, c.loop-x-test.true)

pub loop-x-preserved : goal.loop-x-preserved
loop-x-preserved c = (
  fill_on _ _ _ _ _ _ c.loop-x.invariant.0 c.loop-x-test.true (to_z-of_z w32 c.plain-a.result (record { sfits = c.plain-a.type_inv }) ∙ c.plain-a.ensures),
  fill_on _ _ _ _ _ _ c.loop-x.invariant.1 c.loop-x-test.true
      (to_z-of_z w32 c.left_of-z.result (record { sfits = c.left_of-z.type_inv }) ∙ c.left_of-z.ensures),
)

pub returns : goal.returns
returns c = (filled_table _ _ _ _ _ c.loop-x.invariant.0 c.loop-x-test.false, filled_table _ _ _ _ _ c.loop-x.invariant.1 c.loop-x-test.false)
