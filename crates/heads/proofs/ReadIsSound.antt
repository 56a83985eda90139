-- Where tasks, pairs and patterns were read, the tables that they leave keep rule 10, and hold 0 behind what was read.
use mathlib.Core.Bool.{Bool, true}
use mathlib.Core.Path.{◌≡◌, refl, sym, ap, ap₂, ◌∙◌, subst}
use mathlib.Core.List.{List}
use Prim.Native.Nat.{ℕ, zero, suc, ◌+◌, ◌*◌, ◌<◌, ◌≤◌}
use native.Mathlib.Omega.{arith}
use borrow.Author.Count.{below_more}
use borrow.Author.Tests.{le-leb}
use lib.ListN.{length, set, length-set}
use Rattle.std.specs.Prelude.{Ok}
use Rattle.vocabulary.proofs.Test.{both}
use Rattle.vocabulary.specs.Least.{all, Passing}
use Rattle.vocabulary.proofs.Least.{all_from, pass_from, pass_on, pass_end}
use Rattle.vocabulary.specs.Keep.{SamePrefix, Row}
use Rattle.vocabulary.proofs.Keep.{kept_self, kept_on, row_none}
use Rattle.kinds.specs.declared.Key.{Key}
use Rattle.kinds.specs.declared.Spans.{Spans}
use Rattle.kinds.specs.declared.Task.{Task}
use Rattle.kinds.specs.Limits.{holds, periods, no_key, after}
use Rattle.kinds.specs.Tasks.{Tasks, Patterns, tasks_of, task_at, period, patterns_of, from_task, to_task, pair_count, first_in, second_in, put_task, put_pair}
use Rattle.kinds.specs.Cycle.{periods_fit}
use Rattle.kinds.specs.Links.{links_in}
use Rattle.kinds.specs.Sound.{attributes_fit, pair_key, pair_fits, heading_fits, PatternsAsked}
use Rattle.kinds.specs.RangeLaws.{pair_key_more, pair_fits_lem}
use Rattle.kinds.proofs.PatternWalk.{Walking, walk_on, heading_facts}
use Rattle.kinds.proofs.Rows.{task_row, task_kept, task_there, task_below, heading_row, heading_there, pair_there}
use Rattle.heads.specs.declared.Progress.{Progress}
use Rattle.numbers.specs.Results.{ok_second}
use Rattle.heads.specs.Tables.{Outcome, no_attributes, TasksRead, tasks_read, tasks_from, PairsRead, pairs_from, PatternTables, with_pattern, progress, PatternsRead, patterns_from, patterns_read}
use Rattle.heads.proofs.ReadInRange.{task_fits_lem, two_fits, heading_fits_lem}
use Rattle.heads.proofs.ReadSteps.{tasks_went, pairs_went, patterns_went, patterns_rest}
use Rattle.heads.proofs.ReadKeeps.{pairs_kept, pairs_row, PatternsKept, patterns_kept}

-- ---- tasks
pub record TasksDone (u : List ℕ) (i : ℕ) : Type 0 where
  pub row : Row u 256 (4 * i)
  pub fits : (j : ℕ) → j < i → attributes_fit (task_at u j) ≡ true

tasks_more : (u : List ℕ) (i : ℕ) (t : Task) → i < 64 → attributes_fit t ≡ true → TasksDone u i → TasksDone (put_task u i t) (i + 1)
tasks_more u i t l f d = record { row = task_row u i t 256 d.row; fits = below_more (λ (j : ℕ). attributes_fit (task_at v j) ≡ true) i there here }
  where
    v : List ℕ
    v = put_task u i t

    same : SamePrefix v v (4 * (i + 1))
    same = kept_self v (4 * (i + 1))

    here : attributes_fit (task_at v i) ≡ true
    here = ap attributes_fit (task_there u i t v same (omega (arith, d.row.long))) ∙ f

    there : (j : ℕ) → j < i → attributes_fit (task_at v j) ≡ true
    there j h = ap attributes_fit (task_below u v i j (task_kept u i t v same) h) ∙ d.fits j h

pub tasks_done : (s : List ℕ) (k i at : ℕ) (u : List ℕ) (q : ℕ) → i + k ≤ 64 → TasksDone u i → (tasks_from s k i at u).outcome ≡ Ok q → TasksDone (tasks_from s k i at u).table (i + k)
unfolding tasks_from
tasks_done s zero i at u q l d e = let z : i + 0 ≡ i = omega arith in rw z d
tasks_done s (suc k) i at u q l d e =
    let w = tasks_went s k i at u q e in
    let v : List ℕ = put_task u i w.task in
    let g : TasksDone v (i + 1) = tasks_more u i w.task (omega arith) (task_fits_lem s at w.task w.next w.is) d in
    let p = tasks_done s k (i + 1) w.next v q (omega arith) g (ap (λ (x : TasksRead). x.outcome) (sym w.rest) ∙ e) in
    let z : i + 1 + k ≡ i + suc k = omega arith in
    rw z at (subst (λ (x : TasksRead). TasksDone x.table (i + 1 + k)) (sym w.rest) p)

pub no_tasks_lem : TasksDone no_attributes 0
no_tasks_lem = record { row = row_none 256; fits = λ j l. absurd (omega arith) }

pub tasks_all : (s : List ℕ) (n at : ℕ) (v : List ℕ) (q : ℕ) → n ≤ 64 → tasks_from s n 0 at no_attributes ≡ tasks_read (Ok q) v → TasksDone v n
tasks_all s n at v q l e =
    let d = tasks_done s n 0 at no_attributes q (omega arith) no_tasks_lem (ap (λ (r : TasksRead). r.outcome) e) in
    let z : 0 + n ≡ n = omega arith in
    rw z at (subst (λ (r : TasksRead). TasksDone r.table (0 + n)) e d)

first_fits : (t : Task) → attributes_fit t ≡ true → holds periods t.period ≡ true
unfolding attributes_fit
first_fits t e = (both {a = holds periods t.period} e).0

pub periods_fit_lem : (s : List ℕ) (n at : ℕ) (v : List ℕ) (q : ℕ) {r : Outcome} → n ≤ 64 → tasks_read r v ≡ tasks_from s n 0 at no_attributes → r ≡ Ok q → periods_fit (tasks_of n v) ≡ true
unfolding periods_fit
periods_fit_lem s n at v q l e o =
    let d : TasksDone v n = tasks_all s n at v q l (sym e ∙ ap (λ (x : Outcome). tasks_read x v) o) in
    rw (le-leb n 64 l) (all_from (λ i. holds periods (period (tasks_of n v) i)) n (λ j h. first_fits (task_at v j) (d.fits j h)))

-- ---- the pairs of a pattern, from start on, d of them read before: in a table v that keeps what is read here all n fit
module _ (s : List ℕ) (la lb start n : ℕ) (v : List ℕ) where
  abbrev fits : ℕ → Bool
  fits = pair_fits v start la lb

  pub pairs_done : (k d j at : ℕ) (low : Key) (u : List ℕ) (q : ℕ) → d + k ≡ n → j ≡ start + d → start + n ≤ 1024 → length u ≡ 2048
      → low ≡ pair_key v start d → Passing fits n d
      → (pairs_from s k at low la lb j u).outcome ≡ Ok q → SamePrefix (pairs_from s k at low la lb j u).table v (2 * (start + n)) → all fits n ≡ true
  unfolding pairs_from
  pairs_done zero d j at low u q z a room long key passing e kept = pass_end fits n d passing (omega arith)
  pairs_done (suc k) d j at low u q z a room long key passing e kept =
      let w = pairs_went s k at low la lb j u q e in
      let x : ℕ = w.x in
      let y : ℕ = w.y in
      let t : List ℕ = put_pair u j x y in
      let r : PairsRead = pairs_from s k w.next (after x y) la lb (j + 1) t in
      let o : r.outcome ≡ Ok q = ap (λ (x : PairsRead). x.outcome) (sym w.rest) ∙ e in
      let g : SamePrefix r.table v (2 * (start + n)) = subst (λ (x : PairsRead). SamePrefix x.table v (2 * (start + n))) w.rest kept in
      let f : SamePrefix t v (2 * (j + 1)) = kept_on t r.table v (2 * (j + 1)) (2 * (start + n)) (omega arith) (pairs_kept s k w.next (after x y) la lb (j + 1) t q o) g in
      let b = pair_there u j x y v f (omega arith) in
      let fx : first_in v (start + d) ≡ x = ap (λ (i : ℕ). first_in v i) (sym a) ∙ b.0 in
      let fy : second_in v (start + d) ≡ y = ap (λ (i : ℕ). second_in v i) (sym a) ∙ b.1 in
      let fit : fits d ≡ true = sym (pair_fits_lem v start la lb d key (sym fx) (sym fy) (sym (two_fits s at low la lb x y w.next w.is))) in
      pairs_done k (d + 1) (j + 1) w.next (after x y) t q (omega arith) (omega arith) room (length-set (set u (2 * j) x) (2 * j + 1) y ∙ length-set u (2 * j) x ∙ long)
      (sym (pair_key_more v start d ∙ ap₂ after fx fy))
      (pass_on fits n d passing (omega arith) fit)
      o g

-- ---- patterns
pub record PatternsRow (u : PatternTables) (i used : ℕ) : Type 0 where
  pub headings : Row u.headings 192 (3 * i)
  pub pairs : Row u.pairs 2048 (2 * used)

abbrev pub patterns_in : PatternTables → ℕ → Patterns
patterns_in w n = patterns_of n w.headings w.pairs

-- the walk over n patterns of the tables w is at its end, with l links
pub record PatternsDone (e : ℕ) (t : Tasks) (w : PatternTables) (n l : ℕ) : Type 0 where
  pub last : Key
  pub used : ℕ
  pub walking : Walking e t (patterns_in w n) n last used l
  pub rows : PatternsRow w n used

no_key_lem : (ps : List ℕ) (start : ℕ) → no_key ≡ pair_key ps start 0
unfolding pair_key
no_key_lem ps start = refl

module _ (s : List ℕ) (e h : ℕ) (t : Tasks) (w : PatternTables) (n : ℕ) (asked : PatternsAsked t (patterns_in w n) h) where
  pub patterns_done : (k i : ℕ) (done : Progress) (u : PatternTables) (q l : ℕ) → i + k ≡ n
      → Walking e t (patterns_in w n) i done.low done.used done.links → PatternsRow u i done.used
      → patterns_from s e t h k i done u ≡ patterns_read (Ok (q, l)) w → PatternsDone e t w n l
  unfolding patterns_from
  patterns_done zero i done u q l z walk rows g =
      let low : Key = done.low in
      let used : ℕ = done.used in
      let a : i ≡ n = omega arith in
      let b : done.links ≡ l = ok_second (ap (λ (x : PatternsRead). x.outcome) g) in
      let d : u ≡ w = ap (λ (x : PatternsRead). x.tables) g in
      record {
        last = low;
        used = used;
        walking = subst (λ (j : ℕ). Walking e t (patterns_in w n) j low used l) a (subst (Walking e t (patterns_in w n) i low used) b walk);
        rows = subst (λ (j : ℕ). PatternsRow w j used) a (subst (λ (x : PatternTables). PatternsRow x i used) d rows);
      }
  patterns_done (suc k) i done u q l z walk rows g =
      let f = patterns_went s e t h i done u k q l (ap (λ (x : PatternsRead). x.outcome) g) in
      let low : Key = done.low in
      let used : ℕ = done.used in
      let x : ℕ = f.x in
      let y : ℕ = f.y in
      let c : ℕ = f.c in
      let m : Spans = f.spans in
      let v : PatternTables = with_pattern u i x y c f.v in
      let made : ℕ = done.links + links_in c h m.whole in
      let next : Progress = progress f.q (after x y) (used + c) made in
      let g' : patterns_from s e t h k (i + 1) next v ≡ patterns_read (Ok (q, l)) w = sym (patterns_rest s e t h i done u k f) ∙ g in
      let kept : PatternsKept v w (i + 1) (used + c) =
      subst (λ (r : PatternsRead). PatternsKept v r.tables (i + 1) (used + c)) g'
      (patterns_kept s e t h k (i + 1) next v q l (ap (λ (r : PatternsRead). r.outcome) g')) in
      let b = heading_there u.headings i x y c w.headings kept.headings (omega (arith, rows.headings.long, asked.patterns)) in
      let fx : from_task (patterns_in w n) i ≡ x = b.from in
      let fy : to_task (patterns_in w n) i ≡ y = b.to in
      let fc : pair_count (patterns_in w n) i ≡ c = b.length in
      let fit = heading_fits_lem s done.at low t.count used x y c f.p f.is in
      let fit' : heading_fits t.count low (from_task (patterns_in w n) i) (to_task (patterns_in w n) i) (pair_count (patterns_in w n) i) used ≡ true = rw (fx, fy, fc) fit in
      let room : used + c ≤ 1024 = (heading_facts t.count low x y c used fit).room in
      let o : (pairs_from s c f.p no_key m.first m.second used u.pairs).outcome ≡ Ok f.q = ap (λ (r : PairsRead). r.outcome) f.pairs in
      let held : SamePrefix (pairs_from s c f.p no_key m.first m.second used u.pairs).table w.pairs (2 * (used + c)) =
      subst (λ (r : PairsRead). SamePrefix r.table w.pairs (2 * (used + c))) (sym f.pairs) kept.pairs in
      let pairs : all (pair_fits w.pairs used m.first m.second) c ≡ true =
      pairs_done s m.first m.second used c w.pairs c 0 used f.p no_key u.pairs f.q (omega arith) (omega arith) room rows.pairs.long (no_key_lem w.pairs used) (pass_from _ c) o held in
      let walk' = walk_on e h t (patterns_in w n) asked i walk (omega arith) fit' (sym fx) (sym fy) f.spans_are (sym fc) pairs (ap (λ (r : ℕ). links_in r h m.whole) (sym fc)) in
      let rows' : PatternsRow v (i + 1) (used + c) =
      record {
        headings = heading_row u.headings i x y c 192 rows.headings;
        pairs = subst (λ (r : PairsRead). Row r.table 2048 (2 * (used + c))) f.pairs (pairs_row s c f.p no_key m.first m.second used u.pairs f.q rows.pairs o);
      } in
      patterns_done k (i + 1) next v q l (omega arith)
      (subst (λ (key : Key). Walking e t (patterns_in w n) (i + 1) key (used + c) made) (ap₂ after fx fy) walk')
      rows' g'
