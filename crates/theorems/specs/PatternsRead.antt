-- The bytes of patterns that fit, each with its pairs, are read into tables that have the entries of the set.
use Rattle.std.specs.Prelude.{◌≡◌, refl, true, List, ◌++◌, length, get_or, Ok}
use Rattle.std.proofs.Math.Path.{sym, ap₂}
use Rattle.std.proofs.Common.{ap, ◌∙◌, length-append}
use Prim.Native.Nat.{ℕ, zero, suc, ◌+◌, ◌*◌, ◌<◌, ◌≤◌}
use native.Mathlib.Omega.{arith}
use Rattle.vocabulary.proofs.Test.{both}
use Rattle.vocabulary.specs.Least.{all}
use Rattle.vocabulary.specs.Total.{total}
use Rattle.vocabulary.proofs.Total.{total_more}
use Rattle.vocabulary.proofs.Multiple.{lcm_pos}
use Rattle.vocabulary.specs.Table.{join}
use Rattle.vocabulary.specs.Parts.{PartAt}
use Rattle.vocabulary.proofs.Parts.{part_front, part_back, part_of_join, join_long}
use Rattle.kinds.specs.declared.Spans.{Spans}
use Rattle.kinds.specs.Limits.{no_key, after}
use Rattle.kinds.specs.Tasks.{Tasks, Patterns, tasks_of, period, from_task, to_task, pair_count, pairs_before}
use Rattle.kinds.specs.Cycle.{cycle}
use Rattle.kinds.specs.Links.{common, first_reach, reach, repeats, links_of, links, spans_of, links_in}
use Rattle.kinds.specs.RangeLaws.{spans_low}
use Rattle.kinds.specs.Sound.{pair_key, pair_fits, pattern_key, heading_fits, pattern_fits}
use Rattle.kinds.proofs.PatternWalk.{HeadingFacts, heading_facts, pattern_key_more, before_more, spans_at, links_at}
use Rattle.heads.specs.declared.Progress.{Progress}
use Rattle.heads.specs.Tables.{pattern, pairs_from, heading_at, PatternTables, progress, PatternRead, PatternsRead, on_heading, on_pairs, pattern_from}
use Rattle.heads.specs.Tables.{on_pattern, patterns_from}
use Rattle.writer.specs.FormatLaws.{pair_bytes, pattern_bytes, heading_bytes, pattern_bytes_lem}
use Rattle.theorems.specs.NumbersRead.{heading_read}
use Rattle.theorems.specs.TablesRead.{Copied, heading_more, PairsCome, pairs_read_lem}

-- ---- before the first
pub join_none : (f : ℕ → List ℕ) → length (join f 0) ≡ 0
unfolding join
join_none f = refl

key_none : (ps : List ℕ) (start : ℕ) → pair_key ps start 0 ≡ no_key
unfolding pair_key
key_none ps start = refl

-- ---- what the reader is to find: tasks in a table xs, their cycle, and patterns that fit
pub record Ahead (e : ℕ) (u : Tasks) (v : Patterns) (xs : List ℕ) (h : ℕ) : Type 0 where
  pub tasks : u.count ≤ 64
  pub patterns : v.count ≤ 64
  pub periods : (i : ℕ) → i < u.count → (0 < period u i) × (period u i ≤ 6000)
  pub fits : (k : ℕ) → k < v.count → pattern_fits e u v k ≡ true
  pub table : Copied u.attributes 256 (4 * u.count) xs
  pub ticks : h ≡ cycle u

module _ (e : ℕ) (u : Tasks) (v : Patterns) (xs : List ℕ) (h : ℕ) (found : Ahead e u v xs h) (k : ℕ) (l : k < v.count) where
  heading_fits_lem : heading_fits u.count (pattern_key v k) (from_task v k) (to_task v k) (pair_count v k) (pairs_before v k) ≡ true
  unfolding pattern_fits
  heading_fits_lem = (both (found.fits k l)).0

  facts : HeadingFacts u.count (pattern_key v k) (from_task v k) (to_task v k) (pair_count v k) (pairs_before v k)
  facts = heading_facts u.count (pattern_key v k) (from_task v k) (to_task v k) (pair_count v k) (pairs_before v k) heading_fits_lem

  abbrev spans : Spans
  spans =
      record {
        whole = common u v k;
        first = first_reach (common u v k) (period u (from_task v k));
        second = reach e (common u v k) (period u (to_task v k));
      }

  spans_are : spans_of e (period u (from_task v k)) (period u (to_task v k)) ≡ spans
  unfolding common
  spans_are =
      spans_at e (period u (from_task v k)) (period u (to_task v k)) (found.periods (from_task v k) facts.from_low)
      (found.periods (to_task v k) facts.to_low)

  -- the reader finds the two periods in its own table
  spans_found : spans_of e (get_or xs (4 * from_task v k) 0) (get_or xs (4 * to_task v k) 0) ≡ spans
  spans_found =
      let a : get_or xs (4 * from_task v k) 0 ≡ period u (from_task v k) = found.table.same (4 * from_task v k) (omega (arith, facts.from_low)) in
      let b : get_or xs (4 * to_task v k) 0 ≡ period u (to_task v k) = found.table.same (4 * to_task v k) (omega (arith, facts.to_low)) in
      ap₂ (spans_of e) a b ∙ spans_are

  pairs_fit : all (pair_fits v.pairs (pairs_before v k) spans.first spans.second) (pair_count v k) ≡ true
  unfolding pattern_fits
  pairs_fit =
      (both {a = heading_fits u.count (pattern_key v k) (from_task v k) (to_task v k) (pair_count v k) (pairs_before v k)} (found.fits k l)).1

  common_some : 0 < common u v k
  unfolding common
  common_some = lcm_pos (period u (from_task v k)) (period u (to_task v k)) (found.periods (from_task v k) facts.from_low).0

  links_more : links_in (pair_count v k) h (common u v k) ≡ links_of u v k
  unfolding links_of repeats
  links_more = rw found.ticks (links_at (pair_count v k) (cycle u) (common u v k) common_some)

-- ---- the reader has come to pattern k, where the patterns begin at `start`
pub record Come (u : Tasks) (v : Patterns) (start k : ℕ) (d : Progress) (t : PatternTables) : Type 0 where
  pub at : d.at ≡ start + length (join (pattern_bytes v) k)
  pub low : d.low ≡ pattern_key v k
  pub used : d.used ≡ pairs_before v k
  pub links : d.links ≡ total (links_of u v) k
  pub headings : Copied v.headings 192 (3 * k) t.headings
  pub pairs : Copied v.pairs 2048 (2 * pairs_before v k) t.pairs

record PatternCome (u : Tasks) (v : Patterns) (start k : ℕ) (r : PatternRead) : Type 0 where
  next : Progress
  to : r.outcome ≡ Ok next
  come : Come u v start (k + 1) next r.tables

pub record PatternsCome (u : Tasks) (v : Patterns) (start : ℕ) (r : PatternsRead) : Type 0 where
  pub to : r.outcome ≡ Ok (start + length (join (pattern_bytes v) v.count), links u v)
  pub headings : Copied v.headings 192 (3 * v.count) r.tables.headings
  pub pairs : Copied v.pairs 2048 (2 * pairs_before v v.count) r.tables.pairs

module _ (file : List ℕ) (e : ℕ) (u : Tasks) (v : Patterns) (xs : List ℕ) (h start : ℕ) (found : Ahead e u v xs h)
    (part : PartAt file start (join (pattern_bytes v) v.count)) where
  module _ (k : ℕ) (l : k < v.count) (d : Progress) (t : PatternTables) (come : Come u v start k d t) where
    abbrev p : ℕ
    p = d.at + length (heading_bytes v k)

    abbrev q : ℕ
    q = p + length (join (pair_bytes v k) (pair_count v k))

    here : PartAt file d.at (heading_bytes v k ++ join (pair_bytes v k) (pair_count v k))
    here = rw (come.at, ← pattern_bytes_lem v k) (part_of_join file start (pattern_bytes v) v.count k l part)

    heading_is : heading_at file d.at d.low u.count d.used ≡ Ok (pattern (from_task v k) (to_task v k) (pair_count v k), p)
    heading_is =
        heading_read file d.at d.low u.count d.used (from_task v k) (to_task v k) (pair_count v k)
        (rw (come.low, come.used) (heading_fits_lem e u v xs h found k l)) found.tasks
        (part_front file d.at (heading_bytes v k) (join (pair_bytes v k) (pair_count v k)) here)

    abbrev m : Spans
    m = spans e u v xs h found k l

    pairs_are : PairsCome file v k p (pairs_from file (pair_count v k) p no_key m.first m.second d.used t.pairs)
    pairs_are =
        let far = spans_low e (period u (from_task v k)) (period u (to_task v k)) (sym (spans_are e u v xs h found k l)) in
        pairs_read_lem file v k p m.first m.second far.0 far.1 (facts e u v xs h found k l).room (pairs_fit e u v xs h found k l)
        (part_back file d.at (heading_bytes v k) (join (pair_bytes v k) (pair_count v k)) here)
        (pair_count v k) 0 d.used p no_key t.pairs (omega arith) (omega (arith, come.used)) (omega (arith, join_none (pair_bytes v k)))
        (sym (key_none v.pairs (pairs_before v k))) (rw come.used come.pairs)

    ends : q ≡ start + length (join (pattern_bytes v) (k + 1))
    ends =
        let a : length (pattern_bytes v k) ≡ length (heading_bytes v k) + length (join (pair_bytes v k) (pair_count v k))
        = ap length (pattern_bytes_lem v k) ∙ length-append (heading_bytes v k) (join (pair_bytes v k) (pair_count v k)) in
        omega (arith, a, come.at, join_long file start (pattern_bytes v) k)

    pattern_read_lem : PatternCome u v start k (pattern_from file e (tasks_of u.count xs) h k d t)
    unfolding pattern_from on_heading on_pairs
    pattern_read_lem =
        rw (heading_is, spans_found e u v xs h found k l, pairs_are.to)
        (record {
          next = progress q (after (from_task v k) (to_task v k)) (d.used + pair_count v k) (d.links + links_in (pair_count v k) h (common u v k));
          to = refl;
          come =
              record {
                at = ends;
                low = sym (pattern_key_more v k);
                used = omega (arith, come.used, before_more v k);
                links = omega (arith, come.links, links_more e u v xs h found k l, total_more (links_of u v) k);
                headings = heading_more v.headings k t.headings come.headings (omega (arith, found.patterns));
                pairs = rw (before_more v k) pairs_are.table;
              };
        })

  pub patterns_read_lem : (j k : ℕ) (d : Progress) (t : PatternTables) → k + j ≡ v.count → Come u v start k d t
      → PatternsCome u v start (patterns_from file e (tasks_of u.count xs) h j k d t)
  unfolding patterns_from on_pattern links
  patterns_read_lem zero k d t f c =
      let z : k ≡ v.count = omega arith in
      record { to = ap₂ (λ a b. Ok (a, b)) (rw z at c.at) (rw z at c.links); headings = rw z at c.headings; pairs = rw z at c.pairs }
  patterns_read_lem (suc j) k d t f c =
      let one = pattern_read_lem k (omega arith) d t c in
      rw one.to (patterns_read_lem j (k + 1) one.next _ (omega arith) one.come)
