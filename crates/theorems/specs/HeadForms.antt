-- Where a head is read from bytes, the bytes of that head stand there; a file that is read is the bytes of its set and its slots.
use Rattle.std.specs.Prelude.{◌≡◌, length, drop, Ok}
use Rattle.std.proofs.Math.Path.{refl, sym, ap, subst}
use Rattle.std.proofs.Common.{◌∙◌, length-drop, length-append, get_or-drop}
use mathlib.Core.List.{List, [], ◌∷◌, ◌++◌}
use Prim.Native.Nat.{ℕ, zero, suc, ◌+◌, ◌*◌, ◌≤◌}
use native.Mathlib.Omega.{arith}
use Rattle.vocabulary.specs.Keep.{SamePrefix}
use Rattle.vocabulary.proofs.Keep.{kept_self, kept_less, kept_on, row_none}
use Rattle.vocabulary.specs.Table.{join}
use Rattle.vocabulary.specs.Parts.{PartAt}
use Rattle.vocabulary.proofs.Parts.{part_both, part_whole}
use Rattle.kinds.specs.declared.Key.{Key}
use Rattle.kinds.specs.declared.Task.{Task}
use Rattle.kinds.specs.declared.Counts.{Counts}
use Rattle.kinds.specs.Limits.{no_key, after}
use Rattle.kinds.specs.Tasks.{Tasks, Patterns, Set, tasks_of, task_at, view, pairs_in, pair_count, first_in, second_in, put_task, put_pair}
use Rattle.kinds.specs.Links.{links_in}
use Rattle.kinds.specs.RangeLaws.{pairs_none, pairs_more}
use Rattle.kinds.proofs.Rows.{task_kept, task_there, heading_kept, heading_there, pair_kept, pair_there}
use Rattle.numbers.specs.Forms.{Bytes}
use Rattle.numbers.specs.Results.{same_ok, ok_first}
use Rattle.heads.specs.declared.Progress.{Progress}
use Rattle.heads.specs.Tables.{no_attributes, TasksRead, tasks_read, tasks_from, PairsRead, pairs_from}
use Rattle.heads.specs.Tables.{PatternTables, no_pattern_tables, with_pattern, progress, PatternsRead, patterns_read, patterns_from}
use Rattle.heads.specs.Heads.{HeadRead, set_of, counts_are}
use Rattle.heads.proofs.ReadSteps.{tasks_went, pairs_went, patterns_went, patterns_rest, HeadWent, head_went}
use Rattle.heads.proofs.ReadKeeps.{pairs_kept, PatternsKept, patterns_kept}
use Rattle.heads.proofs.ReadIsSound.{tasks_all, patterns_in}
use Rattle.heads.proofs.Bounds.{heading_bounds, opening_low, middle_low}
use Rattle.heads.proofs.HeadLaws.{head_of, set_in}
use Rattle.reader.specs.Files.{outcome_read, set_read}
use Rattle.writer.specs.Format.{numbers_of, bytes_in, head_bytes, bytes_of}
use Rattle.writer.specs.FormatLaws.{task_bytes, pair_bytes, heading_bytes, pattern_bytes, pattern_bytes_lem, head_bytes_lem}
use Rattle.theorems.specs.FileParts.{headed}
use Rattle.theorems.specs.NumberForms.{Fills, fills_within, fills_both, join_from, join_on}
use Rattle.theorems.specs.NumberForms.{opening_form, task_form, middle_form, heading_form, two_form}

-- ---- tasks
-- what was read stays: later turns write only behind it
tasks_kept : (s : List ℕ) (k i at : ℕ) (u : List ℕ) (q : ℕ) → (tasks_from s k i at u).outcome ≡ Ok q
    → SamePrefix u (tasks_from s k i at u).table (4 * i)
unfolding tasks_from
tasks_kept s zero i at u q e = kept_self u (4 * i)
tasks_kept s (suc k) i at u q e =
    let w = tasks_went s k i at u q e in
    let v : List ℕ = put_task u i w.task in
    let r : TasksRead = tasks_from s k (i + 1) w.next v in
    let p = tasks_kept s k (i + 1) w.next v q (ap (λ (x : TasksRead). x.outcome) (sym w.rest) ∙ e) in
    subst (λ (x : TasksRead). SamePrefix u x.table (4 * i)) (sym w.rest) (task_kept u i w.task r.table p)

-- the bytes of the first i of n tasks stand before place `at`, and k more are read: then those of all n do, where w is the table in the end
module _ (s : List ℕ) (bytes : Bytes s) (start n : ℕ) (w : List ℕ) (few : n ≤ 64) (long : length w ≡ 256) where
  tasks_form : (k i at : ℕ) (u : List ℕ) (q : ℕ) → i + k ≡ n → tasks_from s k i at u ≡ tasks_read (Ok q) w
      → Fills s start (join (task_bytes (tasks_of n w)) i) at → Fills s start (join (task_bytes (tasks_of n w)) n) q
  unfolding tasks_from
  tasks_form zero i at u q z e so_far =
      let a : i ≡ n = omega arith in
      let b : at ≡ q = same_ok (ap (λ (x : TasksRead). x.outcome) e) in
      rw (a, b) at so_far
  tasks_form (suc k) i at u q z e so_far =
      let f = tasks_went s k i at u q (ap (λ (x : TasksRead). x.outcome) e) in
      let t : Task = f.task in
      let v : List ℕ = put_task u i t in
      let e' : tasks_from s k (i + 1) f.next v ≡ tasks_read (Ok q) w = sym f.rest ∙ e in
      let kept : SamePrefix v w (4 * (i + 1)) =
      subst (λ (r : TasksRead). SamePrefix v r.table (4 * (i + 1))) e' (tasks_kept s k (i + 1) f.next v q (ap (λ (r : TasksRead). r.outcome) e')) in
      let is : task_at w i ≡ t = task_there u i t w kept (omega (arith, (task_kept u i t w kept).long)) in
      let here : Fills s at (task_bytes (tasks_of n w) i) f.next =
      subst (λ (y : Task). Fills s at (bytes_in (numbers_of y)) f.next) (sym is)
      (task_form s bytes at t f.next f.is) in
      tasks_form k (i + 1) f.next v q (omega arith) e' (join_on s start (task_bytes (tasks_of n w)) i so_far here)

-- ---- the pairs of a pattern, as tasks: they stand from `start` on in a table v that keeps what is read here
module _ (s : List ℕ) (bytes : Bytes s) (la lb at₀ start n : ℕ) (v : List ℕ) (room : start + n ≤ 1024) (long : length v ≡ 2048) where
  abbrev pair_at : ℕ → List ℕ
  pair_at d = bytes_in (first_in v (start + d) ∷ second_in v (start + d) ∷ [])

  pairs_form : (k d j at : ℕ) (low : Key) (u : List ℕ) (q : ℕ) → d + k ≡ n → j ≡ start + d → (pairs_from s k at low la lb j u).outcome ≡ Ok q
      → SamePrefix (pairs_from s k at low la lb j u).table v (2 * (start + n)) → Fills s at₀ (join pair_at d) at → Fills s at₀ (join pair_at n) q
  unfolding pairs_from
  pairs_form zero d j at low u q z a e kept so_far =
      let b : d ≡ n = omega arith in
      let c : at ≡ q = same_ok e in
      rw (b, c) at so_far
  pairs_form (suc k) d j at low u q z a e kept so_far =
      let w = pairs_went s k at low la lb j u q e in
      let x : ℕ = w.x in
      let y : ℕ = w.y in
      let t : List ℕ = put_pair u j x y in
      let r : PairsRead = pairs_from s k w.next (after x y) la lb (j + 1) t in
      let o : r.outcome ≡ Ok q = ap (λ (x : PairsRead). x.outcome) (sym w.rest) ∙ e in
      let g : SamePrefix r.table v (2 * (start + n)) = subst (λ (x : PairsRead). SamePrefix x.table v (2 * (start + n))) w.rest kept in
      let f : SamePrefix t v (2 * (j + 1)) =
      kept_on t r.table v (2 * (j + 1)) (2 * (start + n)) (omega arith) (pairs_kept s k w.next (after x y) la lb (j + 1) t q o) g in
      let b = pair_there u j x y v f (omega (arith, (pair_kept u j x y v f).long)) in
      let here : Fills s at (pair_at d) w.next = rw (← a, b.0, b.1) (two_form s bytes at low la lb x y w.next w.is) in
      pairs_form k (d + 1) (j + 1) w.next (after x y) t q (omega arith) (omega arith) o g (join_on s at₀ pair_at d so_far here)

-- ---- patterns, as tasks: w are the tables in the end, and the pairs of the first i patterns are those read so far
module _ (s : List ℕ) (bytes : Bytes s) (e h start : ℕ) (t : Tasks) (n : ℕ) (w : PatternTables) (few : n ≤ 64)
    (headings : length w.headings ≡ 192) (pairs : length w.pairs ≡ 2048) where
  abbrev P : Patterns
  P = patterns_in w n

  patterns_form : (k i : ℕ) (done : Progress) (u : PatternTables) (q l : ℕ) → i + k ≡ n → done.used ≡ pairs_in w.headings i
      → patterns_from s e t h k i done u ≡ patterns_read (Ok (q, l)) w
      → Fills s start (join (pattern_bytes P) i) done.at → Fills s start (join (pattern_bytes P) n) q
  unfolding patterns_from
  patterns_form zero i done u q l z before g so_far =
      let a : i ≡ n = omega arith in
      let b : done.at ≡ q = ok_first (ap (λ (x : PatternsRead). x.outcome) g) in
      rw (a, b) at so_far
  patterns_form (suc k) i done u q l z before g so_far =
      let f = patterns_went s e t h i done u k q l (ap (λ (x : PatternsRead). x.outcome) g) in
      let used : ℕ = done.used in
      let past : ℕ = pairs_in w.headings i in
      let x : ℕ = f.x in
      let y : ℕ = f.y in
      let c : ℕ = f.c in
      let v : PatternTables = with_pattern u i x y c f.v in
      let next : Progress = progress f.q (after x y) (used + c) (done.links + links_in c h f.spans.whole) in
      let g' : patterns_from s e t h k (i + 1) next v ≡ patterns_read (Ok (q, l)) w = sym (patterns_rest s e t h i done u k f) ∙ g in
      let kept : PatternsKept v w (i + 1) (used + c) =
      subst (λ (r : PatternsRead). PatternsKept v r.tables (i + 1) (used + c)) g'
      (patterns_kept s e t h k (i + 1) next v q l (ap (λ (r : PatternsRead). r.outcome) g')) in
      let b = heading_there u.headings i x y c w.headings kept.headings
      (omega (arith, (heading_kept u.headings i x y c w.headings kept.headings).long)) in
      let fc : pair_count P i ≡ c = b.length in
      let room = (heading_bounds s done.at done.low t.count used x y c f.p refl f.is).room in
      let top : Fills s done.at (heading_bytes P i) f.p =
      rw (b.from, b.to, b.length) (heading_form s bytes done.at done.low t.count used x y c f.p f.is) in
      let r : PairsRead = pairs_from s c f.p no_key f.spans.first f.spans.second used u.pairs in
      let held : SamePrefix r.table w.pairs (2 * (past + c)) =
      subst (λ (r : PairsRead). SamePrefix r.table w.pairs (2 * (past + c))) (sym f.pairs)
      (kept_less f.v w.pairs (2 * (used + c)) (2 * (past + c)) (omega arith) kept.pairs) in
      let rest : Fills s f.p (join (pair_bytes P i) c) f.q =
      pairs_form s bytes f.spans.first f.spans.second f.p past c w.pairs (omega arith) pairs c 0 used f.p no_key u.pairs f.q
      (omega arith) (omega arith) (ap (λ (r : PairsRead). r.outcome) f.pairs) held (join_from s f.p (pair_bytes P i) (fills_within top)) in
      let here : Fills s done.at (pattern_bytes P i) f.q = rw (pattern_bytes_lem P i) (fills_both top (rw fc rest)) in
      patterns_form k (i + 1) next v q l (omega arith) (omega (arith, pairs_more w.headings i)) g' (join_on s start (pattern_bytes P) i so_far here)

-- ---- the head
module _ (s : List ℕ) (bytes : Bytes s) (f : Counts) (at : ℕ) where
  all_form : (w : HeadWent s no_attributes no_pattern_tables f at)
      → Fills s 0 (head_bytes (view (set_of (counts_are w.e w.m w.n w.k w.cy) w.tasks w.patterns))) at
  all_form w =
      let n : ℕ = w.n in
      let k : ℕ = w.k in
      let t : Tasks = tasks_of n w.tasks in
      let start : Progress = progress w.p₂ no_key 0 0 in
      let P : Patterns = patterns_in w.patterns k in
      let few = opening_low s w.e n w.m w.p₀ refl w.opened in
      let low = middle_low s w.p₁ t w.cy k w.p₂ refl w.between in
      let done = tasks_all s n w.p₀ w.tasks w.p₁ few w.tasked in
      let kept : PatternsKept no_pattern_tables w.patterns 0 0 =
      subst (λ (r : PatternsRead). PatternsKept no_pattern_tables r.tables 0 0) w.patterned
      (patterns_kept s w.e t w.cy.ticks k 0 start no_pattern_tables at w.l (ap (λ (r : PatternsRead). r.outcome) w.patterned)) in
      let a = opening_form s bytes w.e n w.m w.p₀ w.opened in
      let b = tasks_form s bytes w.p₀ n w.tasks few done.row.long n 0 w.p₀ no_attributes w.p₁ (omega arith) w.tasked
      (join_from s w.p₀ (task_bytes t) (fills_within a)) in
      let c = middle_form s bytes w.p₁ t w.cy k w.p₂ w.between in
      let d = patterns_form s bytes w.e w.cy.ticks w.p₂ t k w.patterns low.0
      (kept.headings.long ∙ (row_none 192).long) (kept.pairs.long ∙ (row_none 2048).long)
      k 0 start no_pattern_tables at w.l (omega arith) (sym (pairs_none w.patterns.headings)) w.patterned
      (join_from s w.p₂ (pattern_bytes P) (fills_within c)) in
      rw (head_bytes_lem (view (set_of (counts_are w.e w.m n k w.cy) w.tasks w.patterns))) (fills_both (fills_both (fills_both a b) c) d)

  went_form : HeadWent s no_attributes no_pattern_tables f at → Fills s 0 (head_bytes (view (set_in (head_of s) f))) at
  went_form w =
      subst (λ (r : HeadRead). Fills s 0 (head_bytes (view (set_in r f))) at) (sym w.is)
      (subst (λ (g : Counts). Fills s 0 (head_bytes (view (set_of g w.tasks w.patterns))) at) w.shape (all_form w))

-- ==== Where a head is read from bytes, the bytes of its set stand at the front, and end where the head does.
pub head_form : (s : List ℕ) → Bytes s → (f : Counts) (at : ℕ) → (head_of s).outcome ≡ Ok (f, at)
    → PartAt s 0 (head_bytes (view (set_in (head_of s) f))) × (at ≡ length (head_bytes (view (set_in (head_of s) f))))
head_form s bytes f at e =
    let w = went_form s bytes f at (head_went s no_attributes no_pattern_tables f at e) in
    (w.part, omega (arith, w.ends))

-- ---- the file
-- a list that begins with xs is xs and the rest
part_rest : (s xs : List ℕ) (p : ℕ) → p ≡ length xs → PartAt s 0 xs → s ≡ xs ++ drop p s
part_rest s xs p e f =
    part_whole s (xs ++ drop p s) (omega (arith, f.within, length-append xs (drop p s), length-drop p s)) (part_both s 0 xs (drop p s) f behind)
  where
    behind : PartAt s (0 + length xs) (drop p s)
    behind =
        let z : 0 + length xs ≡ p = omega arith in
        rw z (record { within = omega (arith, f.within, length-drop p s); entry = λ j h. sym (get_or-drop p s j 0) })

-- ==== A file of bytes that is read is the file of its set and of its slots.
pub file_form : (s : List ℕ) → Bytes s → (p : ℕ) → outcome_read s ≡ Ok p
    → (p ≡ length (head_bytes (view (set_read s)))) × (s ≡ bytes_of (view (set_read s)) (drop p s))
unfolding bytes_of
file_form s bytes p e =
    let w = headed s p e in
    let f = head_form s bytes w.counts p w.is in
    let set : Set = view (set_in (head_of s) w.counts) in
    rw w.set (f.1, part_rest s (head_bytes set) p f.1 f.0)
