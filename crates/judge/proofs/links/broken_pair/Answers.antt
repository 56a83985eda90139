use native.Mathlib.Omega.{arith}
use Rattle.vocabulary.proofs.Least.{seek, on}
use Rattle.judge.proofs.Searches.{with_found, with_nowhere}
use Rattle.judge.proofs.LinkTableLaws.{pattern_pair, pairs_room, pair_yes, pair_no}
use Rattle.judge.proofs.links.broken_pair.Goals as goal

pub loop-q-init : goal.loop-q-init
loop-q-init c = λ w. seek _ _

pub overflow_add-start : goal.overflow_add-start
overflow_add-start c = omega (arith, pairs_room c.requires, c.loop-q-test.true)

pub broken_link-requires : goal.broken_link-requires
broken_link-requires c = pattern_pair c.requires c.loop-q-test.true

pub returns-in-Some : goal.returns-in-Some
returns-in-Some c = λ w.
    let y = pair_yes (pattern_pair w c.loop-q-test.true) (c.in-Some.ensures (pattern_pair w c.loop-q-test.true)) in
    with_found _ _ _ _ (c.loop-q.invariant w) c.loop-q-test.true y.0 y.1

pub loop-q-preserved : goal.loop-q-preserved
loop-q-preserved c = λ w.
    let l = c.loop-q-test.true in
    let z = pattern_pair w l in
    on _ _ _ (c.loop-q.invariant w) l (pair_no z (c.in_default.ensures z))

pub returns : goal.returns
returns c = λ w. with_nowhere _ _ _ _ (c.loop-q.invariant w) c.loop-q-test.false
