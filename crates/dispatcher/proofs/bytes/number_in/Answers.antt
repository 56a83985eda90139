use mathlib.Core.Path.{◌∙◌}
use native.Mathlib.Omega.{arith}
use Rattle.dispatcher.proofs.ByteLoops.{read_from, read_room, read_on, read_end}
use Rattle.dispatcher.proofs.bytes.number_in.Goals as goal

pub loop-k-init : goal.loop-k-init
loop-k-init c = read_from _ _ _

pub overflow_mul-x : goal.overflow_mul-x
overflow_mul-x c = omega (arith, read_room _ _ _ _ _ 0 c.loop-k.invariant c.loop-k-test.true c.requires.1 (omega arith))

pub overflow_add-x : goal.overflow_add-x
overflow_add-x c =
    record { fits = read_room _ _ _ _ _ _ c.loop-k.invariant c.loop-k-test.true c.requires.1 (rw c.from.ensures c.byte_in.type_inv) }

pub loop-k-preserved : goal.loop-k-preserved
loop-k-preserved c =
    read_on _ _ _ _ _ _ c.loop-k.invariant c.loop-k-test.true (c.from.ensures ∙ c.byte_in.ensures) (rw c.from.ensures c.byte_in.type_inv)

pub returns : goal.returns
returns c = read_end _ _ _ _ _ c.loop-k.invariant c.loop-k-test.false
