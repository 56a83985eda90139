use native.Mathlib.Omega.{arith}
use Prim.Native.Nat.{◌*◌}
use mathlib.Core.Path.{refl}
use Rattle.writer.proofs.Turns.{plain_lent, plain_wrote, three_low, part_below}
use Rattle.writer.proofs.WholeHead.{few_tasks, few_patterns, low_edition, low_processors, low_tasks, patterns_lent, head_wrote, opening_room, tasks_room, count_room, patterns_room}
use Rattle.writer.proofs.bytes.emit_head.Goals as goal

pub overflow_cast-f : goal.overflow_cast-f
overflow_cast-f c = omega (arith, few_tasks c.args.set c.requires.0)

pub emit_numbers-p-requires : goal.emit_numbers-p-requires
emit_numbers-p-requires c = plain_lent _ refl (three_low (omega (arith, low_edition c.args.set c.requires.0)) (omega (arith, few_tasks c.args.set c.requires.0)) (omega (arith, low_processors c.args.set c.requires.0))) (opening_room c.args.set c.requires.0 c.args.out.now c.requires.1)

pub tasks_of-requires : goal.tasks_of-requires
tasks_of-requires c = few_tasks c.args.set c.requires.0

pub emit_numbers-q-requires : goal.emit_numbers-q-requires
emit_numbers-q-requires c = plain_lent _ c.tasks_of.ensures (part_below c.args.set.tables.now.attributes 0 (4 * c.args.set.counts.tasks) 2097152 (low_tasks c.args.set c.requires.0)) (tasks_room c.args.set c.requires.0 c.args.out.now c.requires.1 (plain_wrote _ refl c.emit_numbers-p.ensures))

pub overflow_cast-f-2 : goal.overflow_cast-f-2
overflow_cast-f-2 c = omega (arith, few_patterns c.args.set c.requires.0)

pub emit_number-r-requires : goal.emit_number-r-requires
emit_number-r-requires c = (omega (arith, few_patterns c.args.set c.requires.0), count_room c.args.set c.requires.0 c.args.out.now c.requires.1 (plain_wrote _ refl c.emit_numbers-p.ensures) (plain_wrote _ c.tasks_of.ensures c.emit_numbers-q.ensures))

pub emit_patterns-requires : goal.emit_patterns-requires
emit_patterns-requires c = (patterns_lent c.args.set c.requires.0, patterns_room c.args.set c.requires.0 c.args.out.now c.requires.1 (plain_wrote _ refl c.emit_numbers-p.ensures) (plain_wrote _ c.tasks_of.ensures c.emit_numbers-q.ensures) c.emit_number-r.ensures)

pub returns : goal.returns
returns c = head_wrote c.args.set c.requires.0 c.args.out.now (plain_wrote _ refl c.emit_numbers-p.ensures) (plain_wrote _ c.tasks_of.ensures c.emit_numbers-q.ensures) c.emit_number-r.ensures c.emit_patterns.ensures
