use mathlib.Core.Path.{refl}
use mathlib.Core.List.{[]}
use Rattle.network.specs.LinkLists.{stride_some₁, stride_some₂, stride_some, stride_is}
use native.Mathlib.Omega.{arith}
use Rattle.network.proofs.links.stride_of.Goals as goal

pub nonzero_div-repeats : goal.nonzero_div-repeats
nonzero_div-repeats c = omega (arith, stride_some 0 _ [] _ _ c.requires refl refl c.task_at-s.ensures c.task_at-t.ensures c.common_multiple-c.ensures)

pub nonzero_div-result : goal.nonzero_div-result
nonzero_div-result c = omega (arith, stride_some₁ 0 _ [] _ _ c.requires refl refl c.task_at-s.ensures c.task_at-t.ensures c.common_multiple-c.ensures)

pub nonzero_div-result-2 : goal.nonzero_div-result-2
nonzero_div-result-2 c = omega (arith, stride_some₂ 0 _ [] _ _ c.requires refl refl c.task_at-s.ensures c.task_at-t.ensures c.common_multiple-c.ensures)

pub returns : goal.returns
returns c = stride_is _ _ c.args.base.now _ _ c.requires refl refl c.task_at-s.ensures c.task_at-t.ensures c.common_multiple-c.ensures refl
