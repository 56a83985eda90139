-- Rule R7.3, which is about 10: a set that is lent keeps what the reader tests by 3, 4, 5, 6 and 9.
use Rattle.std.specs.Prelude.{◌≡◌, Bool, ◌&&◌, not, List, ℕ, zero, suc, ◌+◌, ◌<◌, ◌≤◌, leb, eqb, Option, Some, None}
use Rattle.vocabulary.specs.Least.{all}
use Rattle.kinds.specs.declared.Key.{Key}
use Rattle.kinds.specs.declared.Task.{Task}
use Rattle.kinds.specs.declared.Pattern.{Pattern}
use Rattle.kinds.specs.declared.Spans.{Spans}
use Rattle.kinds.specs.declared.Cycle.{Cycle}
use Rattle.kinds.specs.declared.Counts.{Counts}
use Rattle.vocabulary.specs.Test.{pick}
use Rattle.kinds.specs.Limits.{holds, task_counts, processor_counts, periods, runnings, offsets, deadlines, pattern_counts, fewest_pairs}
use Rattle.kinds.specs.Limits.{most_pairs, most_links, no_key, after, rises}
use Rattle.kinds.specs.Editions.{editions}
use Rattle.kinds.specs.Tasks.{Tasks, Patterns, Set, task_at, period, from_task, to_task, pair_count, pairs_before, first_in, second_in}
use Rattle.kinds.specs.Cycle.{cycle, jobs, cycle_fits, cycle_is}
use Rattle.kinds.specs.Links.{common, first_reach, reach, links, spans_of, links_in}

-- Rule R4.4: T, C, O and D of a task.
unfoldable pub attributes_fit : Task → Bool
attributes_fit t =
    holds periods t.period
    && (holds (runnings t.period) t.running
    && (holds (offsets t.period) t.offset && holds (deadlines t.period t.running) t.deadline))

unfoldable pub task_fits : Tasks → ℕ → Bool
task_fits u i = attributes_fit (task_at u.attributes i)

-- Rule R4.11, for pairs: the lowest pair that may stand at q, where the pairs begin at a place of the table
unfoldable pub pair_key : List ℕ → ℕ → ℕ → Key
pair_key ps start zero = no_key
pair_key ps start (suc q) = after (first_in ps (start + q)) (second_in ps (start + q))

-- a pair is in range and in order
unfoldable pub pair_fits : List ℕ → ℕ → ℕ → ℕ → ℕ → Bool
pair_fits ps start limitA limitB q = rises (pair_key ps start q) limitA limitB (first_in ps (start + q)) (second_in ps (start + q))

-- Rule R4.11, for patterns: the lowest that may stand at k
unfoldable pub pattern_key : Patterns → ℕ → Key
pattern_key v zero = no_key
pattern_key v (suc k) = after (from_task v k) (to_task v k)

-- Rules R4.8 and R4.10: two tasks that differ, a pair at least, and at most 1,024 with those before
unfoldable pub heading_fits : ℕ → Key → ℕ → ℕ → ℕ → ℕ → Bool
heading_fits n low x y count used = rises low n n x y && (not (eqb x y) && (leb fewest_pairs count && leb (used + count) most_pairs))

-- pattern k and its pairs keep rules R2.4, R4.8, R4.10 and R4.11
unfoldable pub pattern_fits : ℕ → Tasks → Patterns → ℕ → Bool
pattern_fits e u v k =
    heading_fits u.count (pattern_key v k) (from_task v k) (to_task v k) (pair_count v k) (pairs_before v k)
    && all (pair_fits v.pairs (pairs_before v k) (first_reach (common u v k) (period u (from_task v k)))
    (reach e (common u v k) (period u (to_task v k)))) (pair_count v k)

-- the rules of the numbers before the tasks: 3 and 4
unfoldable pub opening_fits : ℕ → ℕ → ℕ → Bool
opening_fits e n m = holds editions e && (holds task_counts n && holds processor_counts m)

-- a set that the reader would let through
unfoldable pub sound : Set → Bool
sound s =
    opening_fits s.edition s.tasks.count s.processors
    && (all (task_fits s.tasks) s.tasks.count
    && (cycle_fits s.tasks
    && (holds pattern_counts s.patterns.count
    && (all (pattern_fits s.edition s.tasks s.patterns) s.patterns.count
    && leb (links s.tasks s.patterns) most_links))))

-- ---- the cycle and the numbers of a set that is let through
unfoldable pub sound_cycle : Set → Option Cycle
sound_cycle s = pick (sound s) (Some (cycle_is s.tasks)) None

abbrev pub counts_in : Set → Counts
counts_in s =
    record {
      edition = s.edition;
      processors = s.processors;
      tasks = s.tasks.count;
      patterns = s.patterns.count;
      ticks = cycle s.tasks;
      jobs = jobs s.tasks;
    }

unfoldable pub counts_of : Set → Option Counts
counts_of s = pick (sound s) (Some (counts_in s)) None

-- ---- what the tests of one pattern answer, where low is the lowest that may stand there and so many pairs are used: how many links it makes in h ticks, if
-- it is in order
unfoldable pub pattern_tested : ℕ → Tasks → ℕ → List ℕ → Key → ℕ → Pattern → Option ℕ
pattern_tested e u h ps low used p =
    let m : Spans = spans_of e (period u p.from) (period u p.to) in
    pick (heading_fits u.count low p.from p.to p.pairs used && all (pair_fits ps used m.first m.second) p.pairs)
    (Some (links_in p.pairs h m.whole))
    None

-- ---- what the walk over the patterns answers: how many links they make, if all are in order
unfoldable pub patterns_tested : ℕ → Tasks → Patterns → Option ℕ
patterns_tested e u v = pick (all (pattern_fits e u v) v.count) (Some (links u v)) None

-- what it asks: periods in their range, and the cycle
pub record PatternsAsked (u : Tasks) (v : Patterns) (h : ℕ) : Type 0 where
  pub tasks : u.count ≤ 64
  pub patterns : v.count ≤ 64
  pub periods : (i : ℕ) → i < u.count → (0 < period u i) × (period u i ≤ 6000)
  pub ticks : h ≡ cycle u
  pub short : h ≤ 6000
