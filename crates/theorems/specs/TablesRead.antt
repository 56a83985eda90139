-- The bytes of tasks that fit, and of a pattern's pairs, are read into tables that have the entries of the set.
use Rattle.std.specs.Prelude.{◌≡◌, leb, get_or, set, replicate, Ok}
use Rattle.std.proofs.Common.{sym, ◌∙◌, below_more, length-set, get_or-set_same, get_or-set_other}
use Rattle.std.proofs.Math.Path.{ap}
use Rattle.std.proofs.Math.Bool.{true}
use mathlib.Core.List.{List}
use Prim.Native.Nat.{ℕ, zero, suc, ◌+◌, ◌*◌, ◌<◌, ◌≤◌}
use native.Mathlib.Omega.{arith}
use Rattle.std.proofs.Math.ListN.{length}
use Rattle.std.proofs.lemmas.List.{length-replicate}
use Rattle.vocabulary.proofs.Test.{both}
use Rattle.vocabulary.specs.Least.{all}
use Rattle.vocabulary.proofs.Least.{all_at}
use Rattle.vocabulary.specs.Table.{join}
use Rattle.vocabulary.specs.Parts.{PartAt}
use Rattle.vocabulary.proofs.Parts.{part_of_join, join_long}
use Rattle.kinds.specs.declared.Key.{Key}
use Rattle.kinds.specs.Limits.{holds, pattern_counts, most_links, after, rises}
use Rattle.kinds.specs.Tasks.{Tasks, Patterns, Set, task_at, pair_count, pairs_before, pair_first, pair_second}
use Rattle.kinds.specs.Tasks.{first_in, second_in, put_task, put_heading, put_pair}
use Rattle.kinds.specs.Cycle.{cycle_fits}
use Rattle.kinds.specs.Links.{links}
use Rattle.kinds.specs.Sound.{opening_fits, task_fits, sound, attributes_fit, pair_key, pair_fits, pattern_fits}
use Rattle.kinds.specs.RangeLaws.{pair_key_more}
use Rattle.heads.specs.Tables.{TasksRead, on_task, tasks_from, PairsRead, on_two, pairs_from}
use Rattle.writer.specs.FormatLaws.{task_bytes, pair_bytes}
use Rattle.theorems.specs.NumbersRead.{task_read, two_read}

-- ---- the tests that a sound set keeps, one by one
pub record Tests (s : Set) : Type 0 where
  pub opening : opening_fits s.edition s.tasks.count s.processors ≡ true
  pub tasks : (i : ℕ) → i < s.tasks.count → attributes_fit (task_at s.tasks.attributes i) ≡ true
  pub cycle : cycle_fits s.tasks ≡ true
  pub patterns : holds pattern_counts s.patterns.count ≡ true
  pub each : (k : ℕ) → k < s.patterns.count → pattern_fits s.edition s.tasks s.patterns k ≡ true
  pub links : leb (links s.tasks s.patterns) most_links ≡ true

pub tests : (s : Set) → sound s ≡ true → Tests s
unfolding sound task_fits
tests s e =
    let a = both {a = opening_fits s.edition s.tasks.count s.processors} e in
    let b = both {a = all (task_fits s.tasks) s.tasks.count} a.1 in
    let c = both {a = cycle_fits s.tasks} b.1 in
    let d = both {a = holds pattern_counts s.patterns.count} c.1 in
    let f = both {a = all (pattern_fits s.edition s.tasks s.patterns) s.patterns.count} d.1 in
    record {
      opening = a.0;
      tasks = all_at (task_fits s.tasks) s.tasks.count b.0;
      cycle = c.0;
      patterns = d.0;
      each = all_at (pattern_fits s.edition s.tasks s.patterns) s.patterns.count f.0;
      links = f.1;
    }

-- ---- a table of so many entries that has the entries of xs below n
pub record Copied (xs : List ℕ) (size n : ℕ) (t : List ℕ) : Type 0 where
  pub long : length t ≡ size
  pub same : (j : ℕ) → j < n → get_or t j 0 ≡ get_or xs j 0

-- a table of zeros has none yet
pub blank : (xs : List ℕ) (size n : ℕ) → n ≡ 0 → Copied xs size n (replicate size 0)
blank xs size n e = record { long = length-replicate size 0; same = λ j l. absurd (omega arith) }

-- the next entry written
one_more : (xs : List ℕ) (size n : ℕ) (t : List ℕ) {m : ℕ} → Copied xs size n t → n < size → m ≤ n + 1 → Copied xs size m (set t n (get_or xs n 0))
one_more xs size n t {m} c l h = record { long = length-set t n v ∙ c.long; same = λ j a. each j (omega arith) }
  where
    v : ℕ
    v = get_or xs n 0

    each : (j : ℕ) → j < n + 1 → get_or (set t n v) j 0 ≡ get_or xs j 0
    each =
        below_more (λ (j : ℕ). get_or (set t n v) j 0 ≡ get_or xs j 0) n (λ j a. get_or-set_other t n j v 0 (λ e. omega arith) ∙ c.same j a)
        (get_or-set_same t n v 0 (omega (arith, c.long)))

task_more : (xs : List ℕ) (i : ℕ) (t : List ℕ) → Copied xs 256 (4 * i) t → i < 64 → Copied xs 256 (4 * (i + 1)) (put_task t i (task_at xs i))
task_more xs i t c l =
    let c₁ : Copied xs 256 (4 * i + 1) _ = one_more xs 256 (4 * i) t c (omega arith) (omega arith) in
    let c₂ : Copied xs 256 (4 * i + 2) _ = one_more xs 256 (4 * i + 1) _ c₁ (omega arith) (omega arith) in
    let c₃ : Copied xs 256 (4 * i + 3) _ = one_more xs 256 (4 * i + 2) _ c₂ (omega arith) (omega arith) in
    one_more xs 256 (4 * i + 3) _ c₃ (omega arith) (omega arith)

pub heading_more : (xs : List ℕ) (k : ℕ) (t : List ℕ) → Copied xs 192 (3 * k) t → k < 64
    → Copied xs 192 (3 * (k + 1)) (put_heading t k (get_or xs (3 * k) 0) (get_or xs (3 * k + 1) 0) (get_or xs (3 * k + 2) 0))
heading_more xs k t c l =
    let c₁ : Copied xs 192 (3 * k + 1) _ = one_more xs 192 (3 * k) t c (omega arith) (omega arith) in
    let c₂ : Copied xs 192 (3 * k + 2) _ = one_more xs 192 (3 * k + 1) _ c₁ (omega arith) (omega arith) in
    one_more xs 192 (3 * k + 2) _ c₂ (omega arith) (omega arith)

pair_more : (xs : List ℕ) (x : ℕ) (t : List ℕ) → Copied xs 2048 (2 * x) t → x < 1024
    → Copied xs 2048 (2 * (x + 1)) (put_pair t x (first_in xs x) (second_in xs x))
pair_more xs x t c l =
    let c₁ : Copied xs 2048 (2 * x + 1) _ = one_more xs 2048 (2 * x) t c (omega arith) (omega arith) in
    one_more xs 2048 (2 * x + 1) _ c₁ (omega arith) (omega arith)

-- ---- tasks
module _ (file : List ℕ) (u : Tasks) (start : ℕ) where
  pub record TasksCome (r : TasksRead) : Type 0 where
    pub to : r.outcome ≡ Ok (start + length (join (task_bytes u) u.count))
    pub table : Copied u.attributes 256 (4 * u.count) r.table

  module _ (few : u.count ≤ 64) (fit : (i : ℕ) → i < u.count → attributes_fit (task_at u.attributes i) ≡ true)
      (part : PartAt file start (join (task_bytes u) u.count)) where
    pub tasks_read_lem : (k i at : ℕ) (t : List ℕ) → i + k ≡ u.count → at ≡ start + length (join (task_bytes u) i) → Copied u.attributes 256 (4 * i) t
        → TasksCome (tasks_from file k i at t)
    unfolding tasks_from on_task
    tasks_read_lem zero i at t e p c = let z : i ≡ u.count = omega arith in record { to = ap Ok (rw z at p); table = rw z at c }
    tasks_read_lem (suc k) i at t e p c =
        let l : i < u.count = omega arith in
        let here : PartAt file at (task_bytes u i) = rw p (part_of_join file start (task_bytes u) u.count i l part) in
        let z : at + length (task_bytes u i) ≡ start + length (join (task_bytes u) (i + 1)) = omega (arith, p, join_long file start (task_bytes u) i) in
        rw (task_read file at (task_at u.attributes i) (fit i l) here)
        (tasks_read_lem k (i + 1) (at + length (task_bytes u i)) (put_task t i (task_at u.attributes i)) (omega arith) z
        (task_more u.attributes i t c (omega arith)))

-- ---- the pairs of pattern k
module _ (file : List ℕ) (v : Patterns) (k start : ℕ) where
  pub record PairsCome (r : PairsRead) : Type 0 where
    pub to : r.outcome ≡ Ok (start + length (join (pair_bytes v k) (pair_count v k)))
    pub table : Copied v.pairs 2048 (2 * (pairs_before v k + pair_count v k)) r.table

  module _ (la lb : ℕ) (ha : la ≤ 6000) (hb : lb ≤ 12000) (room : pairs_before v k + pair_count v k ≤ 1024)
      (fit : all (pair_fits v.pairs (pairs_before v k) la lb) (pair_count v k) ≡ true) (part : PartAt file start (join (pair_bytes v k) (pair_count v k))) where
    pub pairs_read_lem : (j q x at : ℕ) (low : Key) (t : List ℕ) → q + j ≡ pair_count v k → x ≡ pairs_before v k + q
        → at ≡ start + length (join (pair_bytes v k) q) → low ≡ pair_key v.pairs (pairs_before v k) q → Copied v.pairs 2048 (2 * x) t
        → PairsCome (pairs_from file j at low la lb x t)
    unfolding pairs_from on_two pair_fits
    pairs_read_lem zero q x at low t e f p g c =
        let z : q ≡ pair_count v k = omega arith in
        let w : x ≡ pairs_before v k + pair_count v k = omega arith in
        record { to = ap Ok (rw z at p); table = rw w at c }
    pairs_read_lem (suc j) q x at low t e f p g c =
        let ps : List ℕ = v.pairs in
        let b : ℕ = pairs_before v k in
        let l : q < pair_count v k = omega arith in
        let here : PartAt file at (pair_bytes v k q) = rw p (part_of_join file start (pair_bytes v k) (pair_count v k) q l part) in
        let ok : rises low la lb (pair_first v k q) (pair_second v k q) ≡ true = rw g (all_at (pair_fits ps b la lb) (pair_count v k) fit q l) in
        let z : at + length (pair_bytes v k q) ≡ start + length (join (pair_bytes v k) (q + 1)) = omega (arith, p, join_long file start (pair_bytes v k) q) in
        let u : List ℕ = put_pair t x (pair_first v k q) (pair_second v k q) in
        let more : Copied ps 2048 (2 * (x + 1)) u = rw f (pair_more ps (b + q) t (rw f at c) (omega arith)) in
        rw (two_read file at low la lb (pair_first v k q) (pair_second v k q) ok ha hb here)
        (pairs_read_lem j (q + 1) (x + 1) (at + length (pair_bytes v k q)) (after (pair_first v k q) (pair_second v k q)) u (omega arith) (omega arith) z
        (sym (pair_key_more ps b q)) more)
