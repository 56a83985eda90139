use native.Mathlib.Omega.{arith}
use Rattle.heads.specs.LoopSteps.{pattern_refused, pattern_stop, pattern_on}
use Rattle.kinds.specs.RangeLaws.{spans_low}
use Rattle.heads.proofs.Bounds.{heading_bounds, links_low}
use Rattle.std.proofs.lemmas.Result.{err_from_is_err_and}
use Rattle.heads.proofs.read_pattern.Goals as goal

pub bounds-attributes-g : goal.bounds-attributes-g
bounds-attributes-g c = omega (arith, c.requires, (heading_bounds _ _ _ _ _ _ _ _ _ c.read_heading.ensures c.in_ok-g.was).from_low)

pub bounds-attributes-g-2 : goal.bounds-attributes-g-2
bounds-attributes-g-2 c = omega (arith, c.requires, (heading_bounds _ _ _ _ _ _ _ _ _ c.read_heading.ensures c.in_ok-g.was).to_low)

pub read_pairs-requires : goal.read_pairs-requires
read_pairs-requires c =
    let f = heading_bounds _ _ _ _ _ _ _ _ _ c.read_heading.ensures c.in_ok-g.was in
    let s = spans_low _ _ _ c.spans_of-m.ensures in
    (f.room, s.0, s.1)

pub overflow_add-low : goal.overflow_add-low
overflow_add-low c = omega (arith, c.requires, (heading_bounds _ _ _ _ _ _ _ _ _ c.read_heading.ensures c.in_ok-g.was).to_low)

pub overflow_add-result-2 : goal.overflow_add-result-2
overflow_add-result-2 c =
    let f = heading_bounds _ _ _ _ _ _ _ _ _ c.read_heading.ensures c.in_ok-g.was in
    omega (arith, c.requires, links_low _ _ _ c.links_in.ensures f c.requires.2)

pub returns-in_err-g : goal.returns-in_err-g
returns-in_err-g c =
    let e = err_from_is_err_and c.from_residual.result c.from_residual.ensures.1 in
    rw (e.1, e.2) (pattern_refused _ _ _ _ _ _ _ c.read_heading.ensures c.in_err-g.was)

pub returns-in_err-q : goal.returns-in_err-q
returns-in_err-q c =
    let e = err_from_is_err_and c.from_residual-in_err-q.result c.from_residual-in_err-q.ensures.1 in
    rw (c.put_heading.ensures, e.1, e.2)
    (pattern_stop _ _ _ _ _ _ _ c.read_heading.ensures c.in_ok-g.was c.spans_of-m.ensures c.read_pairs.ensures c.in_err-q.was)

pub returns : goal.returns
returns c =
    rw c.put_heading.ensures
    (pattern_on _ _ _ _ _ _ _ c.read_heading.ensures c.in_ok-g.was c.spans_of-m.ensures c.read_pairs.ensures c.in_ok-q.was c.links_in.ensures)
