-- The task set as definitions see it: tables by their entries. Entries beyond the counts count for nothing.
use Rattle.std.specs.Prelude.{◌≡◌, List, ℕ, ◌+◌, ◌*◌, ◌<◌, ltb, get_or, set}
use Rattle.std.proofs.Common.{lt-ltb}
use Rattle.vocabulary.specs.Test.{pick}
use Rattle.vocabulary.specs.Total.{total}
use Rattle.kinds.specs.declared.Task.{Task}
use Rattle.kinds.specs.declared.Pattern.{Pattern}
use Rattle.kinds.specs.declared.Pair.{Pair}
use Rattle.kinds.specs.declared.TaskSet.{TaskSet}

-- Rule R1.2: a task is T, C, O and D. The four numbers of all tasks stand one after another in a table.
pub record Tasks : Type 0 where
  pub count : ℕ
  pub attributes : List ℕ

abbrev pub tasks_of : ℕ → List ℕ → Tasks
tasks_of n xs = record { count = n; attributes = xs }

abbrev pub task_of : ℕ → ℕ → ℕ → ℕ → Task
task_of t c o d = record { period = t; running = c; offset = o; deadline = d }

abbrev pub task_at : List ℕ → ℕ → Task
task_at xs i = task_of (get_or xs (4 * i) 0) (get_or xs (4 * i + 1) 0) (get_or xs (4 * i + 2) 0) (get_or xs (4 * i + 3) 0)

abbrev pub period : Tasks → ℕ → ℕ
period u i = (task_at u.attributes i).period

abbrev pub running : Tasks → ℕ → ℕ
running u i = (task_at u.attributes i).running

abbrev pub offset : Tasks → ℕ → ℕ
offset u i = (task_at u.attributes i).offset

abbrev pub deadline : Tasks → ℕ → ℕ
deadline u i = (task_at u.attributes i).deadline

-- Rule R2.1: a pattern leads from a task to another and has pairs. Two tasks and the pair count of all patterns stand one after another in a table, and
-- so do the two numbers of the pairs of all patterns.
pub record Patterns : Type 0 where
  pub count : ℕ
  pub headings : List ℕ
  pub pairs : List ℕ

abbrev pub patterns_of : ℕ → List ℕ → List ℕ → Patterns
patterns_of k hs ps = record { count = k; headings = hs; pairs = ps }

abbrev pub from_task : Patterns → ℕ → ℕ
from_task v k = get_or v.headings (3 * k) 0

abbrev pub to_task : Patterns → ℕ → ℕ
to_task v k = get_or v.headings (3 * k + 1) 0

abbrev pub pair_count : Patterns → ℕ → ℕ
pair_count v k = get_or v.headings (3 * k + 2) 0

-- the pairs of the first k patterns, by their headings
unfoldable pub pairs_in : List ℕ → ℕ → ℕ
pairs_in hs k = total (λ j. get_or hs (3 * j + 2) 0) k

-- where pattern k's pairs begin: after those of the patterns before it
abbrev pub pairs_before : Patterns → ℕ → ℕ
pairs_before v k = pairs_in v.headings k

-- the numbers a and b of pair x
abbrev pub first_in : List ℕ → ℕ → ℕ
first_in ps x = get_or ps (2 * x) 0

abbrev pub second_in : List ℕ → ℕ → ℕ
second_in ps x = get_or ps (2 * x + 1) 0

-- of pair q of pattern k: patterns count from 0, and pairs from 0 in each
abbrev pub pair_first : Patterns → ℕ → ℕ → ℕ
pair_first v k q = first_in v.pairs (pairs_before v k + q)

abbrev pub pair_second : Patterns → ℕ → ℕ → ℕ
pair_second v k q = second_in v.pairs (pairs_before v k + q)

-- ---- as the functions over lent tables answer: all 0 past the last place of a table
abbrev pub no_task : Task
no_task = task_of 0 0 0 0

unfoldable pub task_in : List ℕ → ℕ → Task
task_in xs i = pick (ltb i 64) (task_at xs i) no_task

unfoldable pub pattern_in : List ℕ → ℕ → Pattern
pattern_in hs k =
    pick (ltb k 64) (record { from = get_or hs (3 * k) 0; to = get_or hs (3 * k + 1) 0; pairs = get_or hs (3 * k + 2) 0 })
    (record { from = 0; to = 0; pairs = 0 })

unfoldable pub pair_in : List ℕ → ℕ → Pair
pair_in ps x = pick (ltb x 1024) (record { first = first_in ps x; second = second_in ps x }) (record { first = 0; second = 0 })

pub task_in_lem : (xs : List ℕ) (i : ℕ) → i < 64 → task_in xs i ≡ task_at xs i
unfolding task_in
task_in_lem xs i l = rw (lt-ltb i 64 l)

pub pattern_in_lem : (hs : List ℕ) (k : ℕ) → k < 64
    → pattern_in hs k ≡ record { from = get_or hs (3 * k) 0; to = get_or hs (3 * k + 1) 0; pairs = get_or hs (3 * k + 2) 0 }
unfolding pattern_in
pattern_in_lem hs k l = rw (lt-ltb k 64 l)

pub pair_in_lem : (ps : List ℕ) (x : ℕ) → x < 1024 → pair_in ps x ≡ record { first = first_in ps x; second = second_in ps x }
unfolding pair_in
pair_in_lem ps x l = rw (lt-ltb x 1024 l)

-- Rule R4.1: the whole set keeps its edition, and m goes with it
pub record Set : Type 0 where
  pub edition : ℕ
  pub processors : ℕ
  pub tasks : Tasks
  pub patterns : Patterns

-- what a set by value stands for
abbrev pub view : TaskSet → Set
view s =
    record {
      edition = s.edition;
      processors = s.processors;
      tasks = tasks_of s.tasks s.tables.attributes;
      patterns = patterns_of s.patterns s.tables.headings s.tables.pairs;
    }

-- ---- a task, a heading or a pair written into its table
abbrev pub put_task : List ℕ → ℕ → Task → List ℕ
put_task xs i t = set (set (set (set xs (4 * i) t.period) (4 * i + 1) t.running) (4 * i + 2) t.offset) (4 * i + 3) t.deadline

abbrev pub put_heading : List ℕ → ℕ → ℕ → ℕ → ℕ → List ℕ
put_heading hs k x y n = set (set (set hs (3 * k) x) (3 * k + 1) y) (3 * k + 2) n

abbrev pub put_pair : List ℕ → ℕ → ℕ → ℕ → List ℕ
put_pair ps x a b = set (set ps (2 * x) a) (2 * x + 1) b
