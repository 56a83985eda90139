use Prim.Native.Nat.{◌*◌}
use native.Mathlib.Omega.{arith}
use Rattle.writer.proofs.WholeHead.{few_tasks, patterns_lent, head_long}
use Rattle.writer.proofs.Turns.{plain_long, part_low, part_long}
use Rattle.writer.proofs.lengths.head_length.Goals as goal

pub tasks_of-requires : goal.tasks_of-requires
tasks_of-requires c = few_tasks c.args.set c.requires

pub numbers_length-requires : goal.numbers_length-requires
numbers_length-requires c = omega (arith, few_tasks c.args.set c.requires, part_long c.args.set.tables.now.attributes 0 (4 * c.args.set.counts.tasks) c.tasks_of.ensures)

pub overflow_add-result : goal.overflow_add-result
overflow_add-result c = omega (arith, (plain_long _ c.tasks_of.ensures c.numbers_length.ensures), part_low c.args.set.tables.now.attributes 0 (4 * c.args.set.counts.tasks), few_tasks c.args.set c.requires)

pub patterns_length-requires : goal.patterns_length-requires
patterns_length-requires c = patterns_lent c.args.set c.requires

pub overflow_add-result-2 : goal.overflow_add-result-2
overflow_add-result-2 c = omega (arith, c.patterns_length.ensures.1, (plain_long _ c.tasks_of.ensures c.numbers_length.ensures), part_low c.args.set.tables.now.attributes 0 (4 * c.args.set.counts.tasks), few_tasks c.args.set c.requires)

pub returns : goal.returns
returns c = (head_long c.args.set c.requires (plain_long _ c.tasks_of.ensures c.numbers_length.ensures) c.patterns_length.ensures.0, omega (arith, c.patterns_length.ensures.1, (plain_long _ c.tasks_of.ensures c.numbers_length.ensures), part_low c.args.set.tables.now.attributes 0 (4 * c.args.set.counts.tasks), few_tasks c.args.set c.requires))
