use Rattle.std.proofs.Common.{arith, rules, ◌<◌, ◌≡◌, ◌+◌, ◌-◌, get_or}
use Rattle.dispatcher.proofs.ByteLoops.{read_from, read_room, read_on}
use Rattle.flute_play.proofs.report_at.Goals as goal

pub loop-k-init : goal.loop-k-init
loop-k-init c = read_from _ _ _

pub overflow_mul-x : goal.overflow_mul-x
overflow_mul-x c = omega (arith, read_room _ _ _ _ _ 0 c.loop-k.invariant c.loop-k-test.true (omega arith) (omega arith))

pub overflow_add-x : goal.overflow_add-x
overflow_add-x c =
    let b : c.from.result < 256 = search rules in
    record { fits = read_room _ _ _ _ _ _ c.loop-k.invariant c.loop-k-test.true (omega arith) b }

pub loop-k-preserved : goal.loop-k-preserved
loop-k-preserved c =
    let b : c.from.result < 256 = search rules in
    let e : c.from.result ≡ get_or c.args.bytes.now (c.args.at + (c.loop-k.k - 1)) 0 = search rules in
    read_on _ _ _ _ _ _ c.loop-k.invariant c.loop-k-test.true e b
