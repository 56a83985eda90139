use Rattle.std.specs.Prelude.{◌≡◌, refl, None}
use Rattle.std.proofs.Common.{◌∙◌, arith}
use Rattle.kinds.proofs.PatternWalk.{walk_from_lem, walk_stop, walk_facts, walk_turn, tested_no, tested_yes}
use Rattle.kinds.proofs.patterns_fit.Goals as goal

pub loop-k-init : goal.loop-k-init
loop-k-init c = walk_from_lem _ _ _

pub pattern_fits-requires : goal.pattern_fits-requires
pattern_fits-requires c = (c.requires.tasks, c.loop-k.invariant.room)

pub returns-in_err-made : goal.returns-in_err-made
returns-in_err-made c =
    let gone : c.from_residual.result ≡ None = grind arith in gone ∙ tested_no _ _ _ _ c.loop-k-test.true
    (walk_stop _ _ _ _ c.requires _ c.loop-k.invariant c.loop-k-test.true c.pattern_at-p.ensures c.in_err-made.ensures)

pub overflow_add-low : goal.overflow_add-low
overflow_add-low c =
    let f = walk_facts _ _ _ _ c.requires _ c.loop-k.invariant c.loop-k-test.true c.pattern_at-p.ensures c.in_ok-made.ensures in
    omega (arith, f.to_low, c.requires.tasks)

-- That the next turn has what it needs also bounds the sum of links.
pub loop-k-preserved : goal.loop-k-preserved
loop-k-preserved c =
    walk_turn _ _ _ _ c.requires _ c.loop-k.invariant c.loop-k-test.true c.pattern_at-p.ensures c.in_ok-made.ensures refl

pub overflow_add-links : goal.overflow_add-links
overflow_add-links c = let w = loop-k-preserved c in omega (arith, w.few, w.room)

pub returns : goal.returns
returns c = tested_yes _ _ _ _ c.loop-k.invariant c.loop-k-test.false
