-- The bytes that were written stand within the buffer.
use Rattle.std.proofs.Common.{sym, arith}
use Rattle.kinds.specs.Tasks.{view}
use Rattle.writer.proofs.Order.{left_long, within}
use Rattle.flute_copy.proofs.write_anew.Goals as goal

pub slice_bounds-out-end : goal.slice_bounds-out-end
slice_bounds-out-end g c =
    omega (
      arith,
      within (view c.args.set) c.args.plan.now c.large_buffer-out.result c.write-w.ensures c.in-Ok.is,
      c.large_buffer-out.ensures,
    )

pub slice_bounds-hand_on-end : goal.slice_bounds-hand_on-end
slice_bounds-hand_on-end g c =
    sym (left_long (view c.args.set) c.args.plan.now c.large_buffer-out.result c.write-w.ensures c.in-Ok.is)
