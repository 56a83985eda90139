use Prim.Native.Nat.{◌*◌, ◌≤◌}
use native.Mathlib.Nat.{mul-le-mul}
use native.Mathlib.Omega.{arith}
use Rattle.reader.proofs.slot_count.Goals as goal

pub overflow_mul-result : goal.overflow_mul-result
overflow_mul-result c = let m = c.from.result in
    let h = c.from-2.result in
    let b : m * h ≤ 4294967295 * 4294967295 = mul-le-mul {n₁ = m} {m₁ = h} {n₂ = 4294967295} {m₂ = 4294967295} (omega (arith, c.from.ensures)) (omega (arith, c.from-2.ensures)) in
    omega arith
