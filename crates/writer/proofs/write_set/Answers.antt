use Rattle.std.proofs.lemmas.Result.{err_from_is_err_and}
use Rattle.kinds.specs.Build.{set_in}
use Rattle.writer.proofs.Order.{head_room, slots_room, all_written, kept}
use Rattle.writer.proofs.write_set.Goals as goal

pub answer-requires : goal.answer-requires
answer-requires c = c.requires

pub emit_head-at-requires : goal.emit_head-at-requires
emit_head-at-requires c = (c.requires.is_sound, head_room (set_in c.args.set) c.args.plan.now c.args.out.now c.answer.ensures c.in_ok-n.was)

pub emit_slots-requires : goal.emit_slots-requires
emit_slots-requires c = slots_room (set_in c.args.set) c.args.plan.now c.args.out.now c.answer.ensures c.in_ok-n.was c.emit_head-at.ensures

pub returns-in_err-n : goal.returns-in_err-n
returns-in_err-n c = let p = err_from_is_err_and c.from_residual.result c.from_residual.ensures.1 in rw (p.1, p.2) (kept (set_in c.args.set) c.args.plan.now c.args.out.now c.answer.ensures c.in_err-n.was)

pub returns : goal.returns
returns c = all_written (set_in c.args.set) c.args.plan.now c.args.out.now c.answer.ensures c.in_ok-n.was c.emit_head-at.ensures c.emit_slots.ensures
