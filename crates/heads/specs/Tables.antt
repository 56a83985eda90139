-- The tables of a plan file: tasks, patterns and their pairs. Each definition reads on from a place, and stops at the first refusal.
use Rattle.std.specs.Prelude.{List, ℕ, zero, suc, ◌+◌, leb, eqb, replicate, Result, Ok, Err}
use Rattle.vocabulary.specs.Test.{pick}
use Rattle.kinds.specs.declared.Key.{Key}
use Rattle.kinds.specs.declared.Spans.{Spans}
use Rattle.kinds.specs.declared.Task.{Task}
use Rattle.kinds.specs.declared.Pattern.{Pattern}
use Rattle.kinds.specs.Limits.{range, periods, runnings, offsets, deadlines, fewest_pairs, most_pairs, no_key, after, first_range, second_range}
use Rattle.kinds.specs.Tasks.{Tasks, task_of, period, put_task, put_heading, put_pair}
use Rattle.kinds.specs.Links.{spans_of, links_in}
use Rattle.numbers.specs.declared.Refusal.{Refusal}
use Rattle.numbers.specs.declared.Refusal.TheVariants as refusal
use Rattle.heads.specs.declared.Progress.{Progress}
use Rattle.numbers.specs.Numbers.{got_at, and_then}

-- ---- what each part answers: what it read with the place after it, or why the file is refused
abbrev pub TaskRead : Type 0
TaskRead = Result (Task × ℕ) Refusal

-- two numbers in order, and the place after them
abbrev pub Two : Type 0
Two = Result (ℕ × ℕ × ℕ) Refusal

-- what stands before a pattern's pairs: its two tasks and its pair count, and the place after them
abbrev pub Heading : Type 0
Heading = Result (Pattern × ℕ) Refusal

-- where reading went on to
abbrev pub Outcome : Type 0
Outcome = Result ℕ Refusal

-- how far the patterns are read after one more
abbrev pub Reached : Type 0
Reached = Result Progress Refusal

-- where the patterns end, and how many links they make
abbrev pub Linked : Type 0
Linked = Result (ℕ × ℕ) Refusal

-- ---- tasks
-- Rule R6.13: of a task T, C, O and D, each held to its range as soon as it is read. O and D, where T and C are read:
unfoldable pub times_from : List ℕ → ℕ → ℕ → ℕ → TaskRead
times_from s p t c =
    and_then (got_at s p (offsets t) (refusal.OutOfLimits p)) λ o p₁.
    and_then (got_at s p₁ (deadlines t c) (refusal.OutOfLimits p₁)) λ d p₂.
    Ok (task_of t c o d, p₂)

unfoldable pub task_from : List ℕ → ℕ → TaskRead
task_from s p =
    and_then (got_at s p periods (refusal.OutOfLimits p)) λ t p₁.
    and_then (got_at s p₁ (runnings t) (refusal.OutOfLimits p₁)) λ c p₂.
    times_from s p₂ t c

abbrev pub no_attributes : List ℕ
no_attributes = replicate 256 0

-- what reading tasks answers, and the table that it leaves
pub record TasksRead : Type 0 where
  pub outcome : Outcome
  pub table : List ℕ

abbrev pub tasks_read : Outcome → List ℕ → TasksRead
tasks_read o u = record { outcome = o; table = u }

unfoldable pub on_task : TaskRead → List ℕ → (Task → ℕ → TasksRead) → TasksRead
on_task (Ok (t, next)) u k = k t next
on_task (Err r) u k = tasks_read (Err r) u

-- k tasks more, from a place, into the table u at i and after
unfoldable pub tasks_from : List ℕ → ℕ → ℕ → ℕ → List ℕ → TasksRead
tasks_from s zero i at u = tasks_read (Ok at) u
tasks_from s (suc k) i at u = on_task (task_from s at) u λ t next. tasks_from s k (i + 1) next (put_task u i t)

-- ---- two numbers in order
-- Rule R6.14: a number that is out of order is refused at its own place, the second where the first is that of the two before. What comes next gets the two,
-- the place of the second and the place after it.
abbrev pub in_order : {A : Type 0} → List ℕ → ℕ → Key → ℕ → ℕ → (ℕ → ℕ → ℕ → ℕ → Result A Refusal) → Result A Refusal
in_order s p low limitA limitB next =
    and_then (got_at s p (first_range low limitA) (refusal.Disordered p)) λ x p₁.
    and_then (got_at s p₁ (second_range low x limitB) (refusal.Disordered p₁)) λ y p₂.
    next x y p₁ p₂

unfoldable pub two_at : List ℕ → ℕ → Key → ℕ → ℕ → Two
two_at s p low limitA limitB = in_order s p low limitA limitB λ x y p₁ p₂. Ok (x, y, p₂)

-- ---- pairs
pub record PairsRead : Type 0 where
  pub outcome : Outcome
  pub table : List ℕ

abbrev pub pairs_read : Outcome → List ℕ → PairsRead
pairs_read o u = record { outcome = o; table = u }

unfoldable pub on_two : Two → List ℕ → (ℕ → ℕ → ℕ → PairsRead) → PairsRead
on_two (Ok (x, y, next)) u k = k x y next
on_two (Err r) u k = pairs_read (Err r) u

-- k pairs more, from a place, into the table u at j and after
unfoldable pub pairs_from : List ℕ → ℕ → ℕ → Key → ℕ → ℕ → ℕ → List ℕ → PairsRead
pairs_from s zero at low limitA limitB j u = pairs_read (Ok at) u
pairs_from s (suc k) at low limitA limitB j u =
    on_two (two_at s at low limitA limitB) u λ x y next.
    pairs_from s k next (after x y) limitA limitB (j + 1) (put_pair u j x y)

-- ---- patterns
abbrev pub pattern : ℕ → ℕ → ℕ → Pattern
pattern x y c = record { from = x; to = y; pairs = c }

-- Rule R4.8: after the two tasks x and y a pair count, which is 1 at least (6) and carries the total to 1,024 at most (4). No number of a file is over
-- 2,097,151.
unfoldable pub count_from : List ℕ → ℕ → ℕ → ℕ → ℕ → Heading
count_from s p x y used =
    and_then (got_at s p (range fewest_pairs 2097152) (refusal.Disordered p)) λ c q.
    pick (leb (used + c) most_pairs) (Ok (pattern x y c, q)) (Err (refusal.OutOfLimits p))

-- Two of n tasks, in order; that they are one is refused at the second.
unfoldable pub heading_at : List ℕ → ℕ → Key → ℕ → ℕ → Heading
heading_at s at low n used =
    in_order s at low n n λ x y p₁ p₂.
    pick (eqb x y) (Err (refusal.Disordered p₁)) (count_from s p₂ x y used)

pub record PatternTables : Type 0 where
  pub headings : List ℕ
  pub pairs : List ℕ

abbrev pub pattern_tables : List ℕ → List ℕ → PatternTables
pattern_tables hs ps = record { headings = hs; pairs = ps }

abbrev pub no_pattern_tables : PatternTables
no_pattern_tables = pattern_tables (replicate 192 0) (replicate 2048 0)

abbrev pub with_pattern : PatternTables → ℕ → ℕ → ℕ → ℕ → List ℕ → PatternTables
with_pattern u i x y n ps = pattern_tables (put_heading u.headings i x y n) ps

-- how far the patterns are read: the place after them, the lowest two tasks that may come next, the pairs and the links so far
abbrev pub progress : ℕ → Key → ℕ → ℕ → Progress
progress at low used links = record { at = at; low = low; used = used; links = links }

-- what reading one pattern answers, and the tables that it leaves
pub record PatternRead : Type 0 where
  pub outcome : Reached
  pub tables : PatternTables

abbrev pub pattern_read : Reached → PatternTables → PatternRead
pattern_read o u = record { outcome = o; tables = u }

unfoldable pub on_heading : Heading → PatternTables → (ℕ → ℕ → ℕ → ℕ → PatternRead) → PatternRead
on_heading (Ok (g, p)) u k = k g.from g.to g.pairs p
on_heading (Err r) u k = pattern_read (Err r) u

unfoldable pub on_pairs : Outcome → PatternTables → (ℕ → Progress) → PatternRead
on_pairs (Ok q) u k = pattern_read (Ok (k q)) u
on_pairs (Err r) u k = pattern_read (Err r) u

-- one pattern, after what is done, into the tables u at i: e is the edition, t are the tasks, h is the cycle
unfoldable pub pattern_from : List ℕ → ℕ → Tasks → ℕ → ℕ → Progress → PatternTables → PatternRead
pattern_from s e t h i done u =
    on_heading (heading_at s done.at done.low t.count done.used) u λ x y c p.
    let m : Spans = spans_of e (period t x) (period t y) in
    let r : PairsRead = pairs_from s c p no_key m.first m.second done.used u.pairs in
    on_pairs r.outcome (with_pattern u i x y c r.table) λ q.
    progress q (after x y) (done.used + c) (done.links + links_in c h m.whole)

pub record PatternsRead : Type 0 where
  pub outcome : Linked
  pub tables : PatternTables

abbrev pub patterns_read : Linked → PatternTables → PatternsRead
patterns_read o u = record { outcome = o; tables = u }

unfoldable pub on_pattern : Reached → PatternTables → (Progress → PatternsRead) → PatternsRead
on_pattern (Ok next) u k = k next
on_pattern (Err r) u k = patterns_read (Err r) u

-- k patterns more, after what is done, into the tables u at i and after
unfoldable pub patterns_from : List ℕ → ℕ → Tasks → ℕ → ℕ → ℕ → Progress → PatternTables → PatternsRead
patterns_from s e t h zero i done u = patterns_read (Ok (done.at, done.links)) u
patterns_from s e t h (suc k) i done u =
    let r : PatternRead = pattern_from s e t h i done u in
    on_pattern r.outcome r.tables λ next. patterns_from s e t h k (i + 1) next r.tables
