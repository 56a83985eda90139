use Prim.Native.Nat.{◌+◌, ◌%◌, ◌/◌}
use Rattle.writer.proofs.Widths.{second_room, third_room, width_one, put_one, put_two, put_three, two_or_more}
use native.Mathlib.Omega.{arith}
use borrow.Author.Rules.{rules}
use Rattle.writer.proofs.bytes.emit_number.Goals as goal

pub bounds-out-at : goal.bounds-out-at
bounds-out-at c = omega (arith, c.requires.1, width_one c.args.v c.if-v-lt128.true)

pub returns-then-v-lt128 : goal.returns-then-v-lt128
returns-then-v-lt128 c = put_one _ _ _ c.if-v-lt128.true (search rules)

pub bounds-out-at-2 : goal.bounds-out-at-2
bounds-out-at-2 c = omega (arith, c.requires.1, two_or_more c.args.v c.if-v-lt128.false)

pub bounds-out-at-then-v-lt16384 : goal.bounds-out-at-then-v-lt16384
bounds-out-at-then-v-lt16384 c = second_room c.args.out.now c.args.at c.args.v (128 + c.args.v % 128) c.requires.1 c.if-v-lt128.false

pub returns-then-v-lt16384 : goal.returns-then-v-lt16384
returns-then-v-lt16384 c = put_two _ _ _ c.if-v-lt128.false c.if-v-lt16384.true (search rules)

pub bounds-out-at-3 : goal.bounds-out-at-3
bounds-out-at-3 c = second_room c.args.out.now c.args.at c.args.v (128 + c.args.v % 128) c.requires.1 c.if-v-lt128.false

pub bounds-out-at-4 : goal.bounds-out-at-4
bounds-out-at-4 c = third_room c.args.out.now c.args.at c.args.v (128 + c.args.v % 128) c.requires.1 (128 + c.args.v / 128 % 128) c.if-v-lt16384.false

pub returns : goal.returns
returns c = put_three _ _ _ c.if-v-lt16384.false (search rules)
