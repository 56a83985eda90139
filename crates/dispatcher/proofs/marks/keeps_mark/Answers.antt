use native.Mathlib.Omega.{arith}
use Rattle.vocabulary.proofs.Test.{and_true, and_false}
use Rattle.dispatcher.specs.Steps.{releases}
use Rattle.dispatcher.specs.Looks.{keeps}
use Rattle.dispatcher.proofs.marks.keeps_mark.Goals as goal

pub returns-then-not-is_marked : goal.returns-then-not-is_marked
unfolding keeps
returns-then-not-is_marked c = rw (← c.is_marked.ensures, c.if-not-is_marked.true, and_false)

pub overflow_mul-x : goal.overflow_mul-x
overflow_mul-x c = omega (arith, c.requires.0.few, c.requires.2)

pub offset_bounds-attributes-x : goal.offset_bounds-attributes-x
offset_bounds-attributes-x c = omega (arith, c.requires.0.few, c.requires.2)

pub bounds-attributes-x : goal.bounds-attributes-x
bounds-attributes-x c = omega (arith, c.requires.0.few, c.requires.2)

pub overflow_add-x : goal.overflow_add-x
overflow_add-x c = omega (arith, c.requires.0.few, c.requires.2)

pub offset_bounds-attributes-x-2 : goal.offset_bounds-attributes-x-2
offset_bounds-attributes-x-2 c = omega (arith, c.requires.0.few, c.requires.2)

pub bounds-attributes-x-2 : goal.bounds-attributes-x-2
bounds-attributes-x-2 c = omega (arith, c.requires.0.few, c.requires.2)

pub is_released-requires : goal.is_released-requires
is_released-requires c = let p = c.requires in let i = c.args.i in omega (arith, p.0.some_period i p.2, p.0.low_offset i p.2, p.0.short, p.1)

pub returns : goal.returns
unfolding keeps releases
returns c = rw (← c.is_marked.ensures, c.if-not-is_marked.false, and_true, ← c.is_released.ensures)
