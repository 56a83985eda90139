-- Of a set that the constructors made every entry beyond the counts is 0.
use mathlib.Core.Path.{◌≡◌, refl, ◌∙◌}
use mathlib.Core.Bool.{Bool, true, false, and-false}
use mathlib.Core.List.{List}
use Prim.Native.Nat.{ℕ, ◌+◌, ◌-◌, ◌*◌, ◌<◌, ◌≤◌}
use native.Mathlib.Omega.{arith}
use lib.Dec.{leb, ltb, eqb}
use lib.ListN.{length, get_or, set, length-set, get_or-eq_default}
use lib.Seq.{get_or-set_same, get_or-set_other}
use borrow.Author.Tests.{eqb-false, ltb-false}
use Rattle.vocabulary.specs.Test.{pick}
use Rattle.vocabulary.proofs.Total.{total_same}
use Rattle.vocabulary.proofs.StopsAndZeros.{zeros_set}
use Rattle.vocabulary.specs.Keep.{SamePrefix, Row}
use Rattle.vocabulary.proofs.Keep.{kept_self, row_none}
use Rattle.kinds.specs.declared.TaskSet.{TaskSet}
use Rattle.kinds.specs.Limits.{holds}
use Rattle.kinds.specs.Editions.{editions}
use Rattle.kinds.specs.Sound.{opening_fits, sound}
use Rattle.kinds.specs.Tasks.{view, task_of, pairs_in, put_heading, put_pair}
use Rattle.kinds.specs.Build.{no_tasks, overfull, plus_task, with_task, plus_pattern, with_pattern, plus_pair, with_pair}
use Rattle.kinds.specs.RangeLaws.{pairs_more}
use Rattle.kinds.proofs.Rows.{row_less, task_row, heading_row, heading_kept, pair_row}

-- The tables are as long as they were made, and hold 0 beyond the tasks, the patterns and the pairs of all patterns.
pub record Blank (s : TaskSet) : Type 0 where
  pub attributes : Row s.tables.attributes 256 (4 * s.tasks)
  pub headings : Row s.tables.headings 192 (3 * s.patterns)
  pub pairs : Row s.tables.pairs 2048 (2 * pairs_in s.tables.headings s.patterns)

pub blank_none : (e m : ℕ) → Blank (no_tasks e m)
blank_none e m = record { attributes = row_none 256; headings = row_none 192; pairs = row_less _ 2048 0 _ (omega arith) (row_none 2048) }

-- What holds of both ways holds of the pick.
either : (P : TaskSet → Type 0) (b : Bool) (s t : TaskSet) → P s → (b ≡ false → P t) → P (pick b s t)
either P true s t p q = p
either P false s t p q = q refl

-- a set that counts a task too many keeps its tables
past_all : (xs : List ℕ) (n a b : ℕ) → Row xs n a → n ≤ b → Row xs n b
past_all xs n a b r l = record { long = r.long; beyond = λ i h. get_or-eq_default xs 0 (omega (arith, r.long)) }

blank_overfull : (s : TaskSet) → Blank s → Blank (overfull s)
blank_overfull s b = record { attributes = past_all s.tables.attributes 256 (4 * s.tasks) 260 b.attributes (omega arith); headings = b.headings; pairs = b.pairs }

-- ==== and rule 10 refuses it
pub overfull_refused : (s : TaskSet) → sound (view (overfull s)) ≡ false
unfolding sound opening_fits holds
overfull_refused s = rw (and-false (holds editions s.edition))

pub blank_task : (s : TaskSet) (t c o d : ℕ) → Blank s → Blank (with_task s t c o d)
unfolding with_task
blank_task s t c o d b =
    either Blank (leb 64 s.tasks) (overfull s) (plus_task s (task_of t c o d)) (blank_overfull s b)
    (λ e. record { attributes = task_row s.tables.attributes s.tasks (task_of t c o d) 256 b.attributes; headings = b.headings; pairs = b.pairs })

-- The sum over the first n does not see what changes behind them.
pub pairs_kept : (hs gs : List ℕ) (n : ℕ) → SamePrefix hs gs (3 * n) → pairs_in gs n ≡ pairs_in hs n
unfolding pairs_in
pairs_kept hs gs n p = total_same (λ j. get_or gs (3 * j + 2) 0) (λ j. get_or hs (3 * j + 2) 0) n (λ j h. p.below (3 * j + 2) (omega arith))

plus_pattern_lem : (s : TaskSet) (x y : ℕ) → Blank s → Blank (plus_pattern s x y)
plus_pattern_lem s x y b =
    let n : ℕ = s.patterns in
    let hs : List ℕ = s.tables.headings in
    let gs : List ℕ = put_heading hs n x y 0 in
    let same : pairs_in gs n ≡ pairs_in hs n = pairs_kept hs gs n (heading_kept hs n x y 0 gs (kept_self gs (3 * (n + 1)))) in
    let more : pairs_in hs n ≤ pairs_in gs (n + 1) = omega (arith, pairs_more gs n, same) in
    record { attributes = b.attributes; headings = heading_row hs n x y 0 192 b.headings; pairs = row_less s.tables.pairs 2048 (2 * pairs_in hs n) (2 * pairs_in gs (n + 1)) (omega arith) b.pairs }

pub blank_pattern : (s : TaskSet) (x y : ℕ) → Blank s → Blank (with_pattern s x y)
unfolding with_pattern
blank_pattern s x y b = either Blank (leb 64 s.patterns) (overfull s) (plus_pattern s x y) (blank_overfull s b) (λ e. plus_pattern_lem s x y b)

-- One pair more in the last pattern is one more in all.
pairs_plus : (hs : List ℕ) (k : ℕ) → 3 * k + 2 < length hs → pairs_in (set hs (3 * k + 2) (get_or hs (3 * k + 2) 0 + 1)) (k + 1) ≡ pairs_in hs (k + 1) + 1
pairs_plus hs k l =
    let x : ℕ = get_or hs (3 * k + 2) 0 + 1 in
    let gs : List ℕ = set hs (3 * k + 2) x in
    let kept : SamePrefix hs gs (3 * k) = record { long = length-set hs (3 * k + 2) x; below = λ j h. get_or-set_other hs (3 * k + 2) j x 0 (λ e. omega arith) } in
    omega (arith, pairs_more gs k, pairs_more hs k, pairs_kept hs gs k kept, get_or-set_same hs (3 * k + 2) x 0 l)

plus_pair_lem : (s : TaskSet) (a c : ℕ) → (s.patterns ≡ 0 → ⊥) → s.patterns ≤ 64 → Blank s → Blank (plus_pair s (s.patterns - 1) (pairs_in s.tables.headings s.patterns) a c)
plus_pair_lem s a c some few b =
    let n : ℕ = s.patterns in
    let k : ℕ = n - 1 in
    let hs : List ℕ = s.tables.headings in
    let all : ℕ = pairs_in hs n in
    let y : ℕ = get_or hs (3 * k + 2) 0 + 1 in
    let gs : List ℕ = set hs (3 * k + 2) y in
    let back : k + 1 ≡ n = omega (arith, some) in
    let more : pairs_in gs n ≡ all + 1 = rw back at (pairs_plus hs k (omega (arith, b.headings.long))) in
    record {
      attributes = b.attributes;
      headings = record { long = length-set hs (3 * k + 2) y ∙ b.headings.long; beyond = zeros_set hs (3 * n) (3 * k + 2) (3 * n) y b.headings.beyond (omega arith) (omega arith) };
      pairs = row_less (put_pair s.tables.pairs all a c) 2048 (2 * (all + 1)) (2 * pairs_in gs n) (omega arith) (pair_row s.tables.pairs all a c 2048 b.pairs);
    }

pub blank_pair : (s : TaskSet) (a c : ℕ) → Blank s → Blank (with_pair s a c)
unfolding with_pair
blank_pair s a c b =
    let n : ℕ = s.patterns in
    let x : ℕ = pairs_in s.tables.headings n in
    let o : TaskSet = overfull s in
    let w : Blank (overfull s) = blank_overfull s b in
    either Blank (eqb n 0) o (pick (ltb 64 n) o (pick (leb 1024 x) o (plus_pair s (n - 1) x a c))) w
    (λ e. either Blank (ltb 64 n) o (pick (leb 1024 x) o (plus_pair s (n - 1) x a c)) w
    (λ f. either Blank (leb 1024 x) o (plus_pair s (n - 1) x a c) w
    (λ g. plus_pair_lem s a c (eqb-false n 0 e) (ltb-false 64 n f) b)))
