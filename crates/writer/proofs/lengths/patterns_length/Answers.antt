use Prim.Native.Nat.{◌*◌}
use mathlib.Core.Path.{refl, sym, ap, ◌∙◌}
use native.Mathlib.Omega.{arith}
use native.Mathlib.Nat.{le_antisymm}
use lib.ListN.{length}
use Rattle.vocabulary.specs.Table.{join}
use Rattle.kinds.specs.Tasks.{patterns_of}
use Rattle.kinds.specs.RangeLaws.{pairs_none}
use Rattle.writer.specs.FormatLaws.{pattern_bytes}
use Rattle.writer.proofs.Turns.{plain_long, part_long, used_low, used_turn, length_turn, turn_low, no_patterns}
use Rattle.writer.proofs.lengths.patterns_length.Goals as goal

pub loop-k-init : goal.loop-k-init
loop-k-init c = (omega arith, sym (pairs_none _), no_patterns _, omega arith, omega arith)

pub pairs_of-requires : goal.pairs_of-requires
pairs_of-requires c = used_low c.args.n c.args.headings.now c.args.pairs.now c.requires c.loop-k.k c.loop-k-test.true c.loop-k.invariant.1 c.pattern_at-p.ensures

pub numbers_length-requires-in-loop-k : goal.numbers_length-requires-in-loop-k
numbers_length-requires-in-loop-k c = omega (arith, used_low c.args.n c.args.headings.now c.args.pairs.now c.requires c.loop-k.k c.loop-k-test.true c.loop-k.invariant.1 c.pattern_at-p.ensures, part_long c.args.pairs.now (2 * c.loop-k.used) (2 * c.pattern_at-p.result.pairs) c.pairs_of.ensures)

pub overflow_add-total : goal.overflow_add-total
overflow_add-total c = omega (arith, c.requires.few, used_low c.args.n c.args.headings.now c.args.pairs.now c.requires c.loop-k.k c.loop-k-test.true c.loop-k.invariant.1 c.pattern_at-p.ensures, turn_low c.args.n c.args.headings.now c.args.pairs.now c.requires c.loop-k.k c.loop-k-test.true c.loop-k.invariant.1 c.pattern_at-p.ensures c.loop-k.invariant.3 (plain_long _ refl c.numbers_length.ensures) (plain_long _ c.pairs_of.ensures c.numbers_length-in-loop-k.ensures))

pub overflow_add-total-in-loop-k : goal.overflow_add-total-in-loop-k
overflow_add-total-in-loop-k c = omega (arith, c.requires.few, used_low c.args.n c.args.headings.now c.args.pairs.now c.requires c.loop-k.k c.loop-k-test.true c.loop-k.invariant.1 c.pattern_at-p.ensures, turn_low c.args.n c.args.headings.now c.args.pairs.now c.requires c.loop-k.k c.loop-k-test.true c.loop-k.invariant.1 c.pattern_at-p.ensures c.loop-k.invariant.3 (plain_long _ refl c.numbers_length.ensures) (plain_long _ c.pairs_of.ensures c.numbers_length-in-loop-k.ensures))

pub overflow_add-used : goal.overflow_add-used
overflow_add-used c = omega (arith, used_low c.args.n c.args.headings.now c.args.pairs.now c.requires c.loop-k.k c.loop-k-test.true c.loop-k.invariant.1 c.pattern_at-p.ensures)

pub loop-k-preserved : goal.loop-k-preserved
loop-k-preserved c = (omega arith, used_turn c.args.n c.args.headings.now c.args.pairs.now c.requires c.loop-k.k c.loop-k-test.true c.loop-k.invariant.1 c.pattern_at-p.ensures, length_turn c.args.n c.args.headings.now c.args.pairs.now c.requires c.loop-k.k c.loop-k-test.true c.loop-k.invariant.1 c.pattern_at-p.ensures c.loop-k.invariant.2 (plain_long _ refl c.numbers_length.ensures) (plain_long _ c.pairs_of.ensures c.numbers_length-in-loop-k.ensures), turn_low c.args.n c.args.headings.now c.args.pairs.now c.requires c.loop-k.k c.loop-k-test.true c.loop-k.invariant.1 c.pattern_at-p.ensures c.loop-k.invariant.3 (plain_long _ refl c.numbers_length.ensures) (plain_long _ c.pairs_of.ensures c.numbers_length-in-loop-k.ensures), used_low c.args.n c.args.headings.now c.args.pairs.now c.requires c.loop-k.k c.loop-k-test.true c.loop-k.invariant.1 c.pattern_at-p.ensures)

pub returns : goal.returns
returns c = (c.loop-k.invariant.2 ∙ ap (λ k. length (join (pattern_bytes (patterns_of c.args.n c.args.headings.now c.args.pairs.now)) k)) (le_antisymm c.loop-k.invariant.0 c.loop-k-test.false), omega (arith, c.requires.few, c.loop-k.invariant.0, c.loop-k.invariant.3, c.loop-k.invariant.4))
