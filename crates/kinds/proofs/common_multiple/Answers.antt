use mathlib.Core.Path.{◌∙◌}
use native.Mathlib.Omega.{arith}
use Rattle.vocabulary.proofs.Test.{and_false}
use Rattle.vocabulary.proofs.Multiple.{lcm_comm}
use Rattle.kinds.specs.Limits.{holds, periods}
use Rattle.kinds.specs.Cycle.{multiple_of}
use Rattle.kinds.specs.RangeLaws.{holds_at}
use Rattle.std.proofs.Common.{sym}
use Rattle.kinds.proofs.common_multiple.Goals as goal

pub returns-then-not-is_within : goal.returns-then-not-is_within
unfolding multiple_of
returns-then-not-is_within c = rw (sym c.is_within.ensures ∙ c.if-not-is_within.true)

pub returns-then-not-is_within-2 : goal.returns-then-not-is_within-2
unfolding multiple_of
returns-then-not-is_within-2 c = rw (sym c.is_within-2.ensures ∙ c.if-not-is_within-2.true, and_false (holds periods c.args.a))

pub multiple_of-requires : goal.multiple_of-requires
multiple_of-requires c =
    let a = holds_at 1 6001 _ (sym c.is_within.ensures ∙ c.if-not-is_within.false) in
    let b = holds_at 1 6001 _ (sym c.is_within-2.ensures ∙ c.if-not-is_within-2.false) in
    (b.0, omega arith, a.0, omega arith)

pub returns-then-a-b : goal.returns-then-a-b
unfolding multiple_of
returns-then-a-b c =
    let a = sym c.is_within.ensures ∙ c.if-not-is_within.false in
    let b = sym c.is_within-2.ensures ∙ c.if-not-is_within-2.false in
    rw (a, b) (c.multiple_of.ensures ∙ lcm_comm _ _ (holds_at 1 6001 _ b).0 (holds_at 1 6001 _ a).0)

pub multiple_of-requires-2 : goal.multiple_of-requires-2
multiple_of-requires-2 c =
    let a = holds_at 1 6001 _ (sym c.is_within.ensures ∙ c.if-not-is_within.false) in
    let b = holds_at 1 6001 _ (sym c.is_within-2.ensures ∙ c.if-not-is_within-2.false) in
    (a.0, omega arith, b.0, omega arith)

pub returns : goal.returns
unfolding multiple_of
returns c =
    rw (
      sym c.is_within.ensures ∙ c.if-not-is_within.false,
      sym c.is_within-2.ensures ∙ c.if-not-is_within-2.false,
    )
    c.multiple_of-2.ensures
