use Prim.Native.Nat.{◌-◌}
use native.Mathlib.Omega.{arith}
use borrow.Author.Tests.{eq-eqb, ne_eqb, lt-ltb, le-ltb, le-leb, lt-leb}
use Rattle.kinds.specs.Build.{with_pair}
use Rattle.kinds.specs.RangeLaws.{pairs_each}
use Rattle.kinds.proofs.TaskSet.with_pair.Goals as goal

pub returns-then-n-eq0 : goal.returns-then-n-eq0
unfolding with_pair
returns-then-n-eq0 c = rw (eq-eqb _ _ c.if-n-eq0.true)

pub returns-then-n-gt-MOST_PATTERNS : goal.returns-then-n-gt-MOST_PATTERNS
unfolding with_pair
returns-then-n-gt-MOST_PATTERNS c = rw (ne_eqb _ _ c.if-n-eq0.false, lt-ltb 64 _ c.if-n-gt-MOST_PATTERNS.true)

pub returns-then-used-ge-MOST_PAIRS : goal.returns-then-used-ge-MOST_PAIRS
unfolding with_pair
returns-then-used-ge-MOST_PAIRS c = rw (ne_eqb _ _ c.if-n-eq0.false, le-ltb 64 _ c.if-n-gt-MOST_PATTERNS.false, ← c.pairs_in-used.ensures, le-leb 1024 _ c.if-used-ge-MOST_PAIRS.true)

pub overflow_add-self : goal.overflow_add-self
overflow_add-self c =
    let s = c.args.self in
    omega (arith, c.pairs_in-used.ensures, pairs_each s.tables.headings (s.patterns - 1) s.patterns (omega (arith, c.if-n-eq0.false)))

pub returns : goal.returns
unfolding with_pair
returns c = rw (ne_eqb _ _ c.if-n-eq0.false, le-ltb 64 _ c.if-n-gt-MOST_PATTERNS.false, ← c.pairs_in-used.ensures, lt-leb 1024 _ c.if-used-ge-MOST_PAIRS.false)
