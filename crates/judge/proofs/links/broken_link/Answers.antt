use native.Mathlib.Omega.{arith}
use Rattle.vocabulary.proofs.Least.{seek, on, found, nowhere}
use Rattle.judge.proofs.LinkTableLaws.{pair_is, pair_from, pair_to, pair_jobs, link_yes, link_no, rounds_low, rounds_high}
use Rattle.judge.proofs.links.broken_link.Goals as goal

pub loop-n-init : goal.loop-n-init
loop-n-init c = let z = pair_is c.requires c.pair_at-pair.ensures.0 in
    (omega (arith, z.0), omega (arith, z.1), λ w. seek _ _)

pub got-a-requires : goal.got-a-requires
got-a-requires c = pair_from c.requires

pub got-b-requires : goal.got-b-requires
got-b-requires c = pair_to c.requires

pub returns-then-b-a : goal.returns-then-b-a
returns-then-b-a c = let l = c.loop-n.invariant in
    λ w. found _ _ _ (l.2 w) (rounds_low w c.loop-n-test.true)
    (link_yes w l.0 l.1 c.loop-n-test.true (c.got-a.ensures (pair_from w)) (c.got-b.ensures (pair_to w)) c.if-b-a.true)

pub overflow_add-i : goal.overflow_add-i
overflow_add-i c = let l = c.loop-n.invariant in
    omega (arith, pair_jobs c.requires l.0 l.1 c.loop-n-test.true)

pub overflow_add-j : goal.overflow_add-j
overflow_add-j c = let l = c.loop-n.invariant in
    omega (arith, pair_jobs c.requires l.0 l.1 c.loop-n-test.true)

pub loop-n-preserved : goal.loop-n-preserved
loop-n-preserved c = let l = c.loop-n.invariant in
    let t = c.loop-n-test.true in (
      omega (arith, l.0),
      omega (arith, l.1),
      λ w. on _ _ _ (l.2 w) (rounds_low w t) (link_no w l.0 l.1 t (c.got-a.ensures (pair_from w)) (c.got-b.ensures (pair_to w)) c.if-b-a.false),
    )

pub returns : goal.returns
returns c = λ w. nowhere _ _ _ (c.loop-n.invariant.2 w) (rounds_high w c.loop-n-test.false)
