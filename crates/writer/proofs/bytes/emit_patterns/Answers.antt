use mathlib.Core.Path.{refl, sym}
use Prim.Native.Nat.{◌+◌, ◌*◌}
use native.Mathlib.Omega.{arith}
use Rattle.kinds.specs.Tasks.{patterns_of}
use Rattle.kinds.specs.RangeLaws.{pairs_none}
use Rattle.writer.specs.FormatLaws.{pattern_bytes}
use Rattle.writer.proofs.Turns.{plain_lent, plain_wrote, three_low, part_below, from_low, to_low, count_low, used_low, used_turn, heading_room, pairs_room, wrote_turn, wrote_no_pattern, wrote_patterns}
use Rattle.writer.proofs.bytes.emit_patterns.Goals as goal

pub loop-k-init : goal.loop-k-init
loop-k-init c = (omega arith, sym (pairs_none _), wrote_no_pattern _ _ _)

pub emit_numbers-start-requires : goal.emit_numbers-start-requires
emit_numbers-start-requires c = plain_lent _ refl (three_low (from_low c.args.n c.args.headings.now c.args.pairs.now c.requires.0 c.loop-k.k c.loop-k-test.true c.loop-k.invariant.1 c.pattern_at-p.ensures) (to_low c.args.n c.args.headings.now c.args.pairs.now c.requires.0 c.loop-k.k c.loop-k-test.true c.loop-k.invariant.1 c.pattern_at-p.ensures) (count_low c.args.n c.args.headings.now c.args.pairs.now c.requires.0 c.loop-k.k c.loop-k-test.true c.loop-k.invariant.1 c.pattern_at-p.ensures)) (heading_room c.args.n c.args.headings.now c.args.pairs.now c.requires.0 c.loop-k.k c.loop-k-test.true c.loop-k.invariant.1 c.pattern_at-p.ensures c.loop-k.invariant.2 c.requires.1)

pub pairs_of-requires : goal.pairs_of-requires
pairs_of-requires c = omega (arith, used_low c.args.n c.args.headings.now c.args.pairs.now c.requires.0 c.loop-k.k c.loop-k-test.true c.loop-k.invariant.1 c.pattern_at-p.ensures)

pub emit_numbers-next-requires : goal.emit_numbers-next-requires
emit_numbers-next-requires c = plain_lent _ c.pairs_of.ensures (part_below c.args.pairs.now (2 * c.loop-k.used) (2 * c.pattern_at-p.result.pairs) 2097152 (λ i l. omega (arith, c.fits-pairs (2 * c.loop-k.used + i)))) (pairs_room c.args.n c.args.headings.now c.args.pairs.now c.requires.0 c.loop-k.k c.loop-k-test.true c.loop-k.invariant.1 c.pattern_at-p.ensures c.loop-k.invariant.2 c.requires.1 (plain_wrote _ refl c.emit_numbers-start.ensures))

pub overflow_add-used : goal.overflow_add-used
overflow_add-used c = omega (arith, used_low c.args.n c.args.headings.now c.args.pairs.now c.requires.0 c.loop-k.k c.loop-k-test.true c.loop-k.invariant.1 c.pattern_at-p.ensures)

pub loop-k-preserved : goal.loop-k-preserved
loop-k-preserved c = (omega arith, used_turn c.args.n c.args.headings.now c.args.pairs.now c.requires.0 c.loop-k.k c.loop-k-test.true c.loop-k.invariant.1 c.pattern_at-p.ensures, wrote_turn c.args.n c.args.headings.now c.args.pairs.now c.requires.0 c.loop-k.k c.loop-k-test.true c.loop-k.invariant.1 c.pattern_at-p.ensures c.loop-k.invariant.2 (plain_wrote _ refl c.emit_numbers-start.ensures) (plain_wrote _ c.pairs_of.ensures c.emit_numbers-next.ensures))

pub returns : goal.returns
returns c = wrote_patterns (pattern_bytes (patterns_of c.args.n c.args.headings.now c.args.pairs.now)) c.loop-k.invariant.0 c.loop-k-test.false c.loop-k.invariant.2
