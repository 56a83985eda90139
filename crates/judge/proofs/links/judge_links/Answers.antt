use native.Mathlib.Omega.{arith}
use Rattle.vocabulary.proofs.Least.{seek, on}
use Rattle.judge.proofs.LinkTableLaws.{pattern_few, steps_needs, pattern_of, pairs_room, pattern_no, found_low, start_from, start_on, link_found, links_end}
use Rattle.judge.proofs.links.judge_links.Goals as goal

pub loop-k-init : goal.loop-k-init
loop-k-init c = (start_from _, λ w. seek _ _)

pub steps_of-g-requires : goal.steps_of-g-requires
steps_of-g-requires c = steps_needs c.requires c.loop-k-test.true c.pattern_at-p.ensures

pub broken_pair-requires : goal.broken_pair-requires
broken_pair-requires c = pattern_of c.requires c.loop-k-test.true c.pattern_at-p.ensures c.steps_of-g.ensures c.loop-k.invariant.0

pub overflow_cast-result : goal.overflow_cast-result
overflow_cast-result c = omega (arith, pattern_few c.requires c.loop-k-test.true)

pub overflow_cast-result-in-Some : goal.overflow_cast-result-in-Some
overflow_cast-result-in-Some c =
    let z = pattern_of c.requires c.loop-k-test.true c.pattern_at-p.ensures c.steps_of-g.ensures c.loop-k.invariant.0 in
    omega (arith, pairs_room z, found_low _ _ _ _ z.count (c.in-Some.ensures z))

pub returns-in-Some : goal.returns-in-Some
returns-in-Some c = λ w.
    let z = pattern_of w c.loop-k-test.true c.pattern_at-p.ensures c.steps_of-g.ensures c.loop-k.invariant.0 in
    link_found _ _ _ _ z.count (c.in-Some.ensures z) (c.loop-k.invariant.1 w) c.loop-k-test.true

pub overflow_add-start : goal.overflow_add-start
overflow_add-start c = omega (arith, pairs_room (pattern_of c.requires c.loop-k-test.true c.pattern_at-p.ensures c.steps_of-g.ensures c.loop-k.invariant.0))

pub loop-k-preserved : goal.loop-k-preserved
loop-k-preserved c = let y = pattern_of c.requires c.loop-k-test.true c.pattern_at-p.ensures c.steps_of-g.ensures c.loop-k.invariant.0 in (
  start_on _ _ c.loop-k.invariant.0 y.count,
  λ w.
      let z = pattern_of w c.loop-k-test.true c.pattern_at-p.ensures c.steps_of-g.ensures c.loop-k.invariant.0 in
      on _ _ _ (c.loop-k.invariant.1 w) c.loop-k-test.true (pattern_no _ _ _ _ z.count (c.in_default.ensures z)),
)

pub returns : goal.returns
returns c = λ w. links_end _ _ _ _ (c.loop-k.invariant.1 w) c.loop-k-test.false
