-- Rule R5.3: the head of a plan file, from its edition to its last pair.
use Rattle.std.specs.Prelude.{List, ℕ, leb, Result, Ok, Err}
use Rattle.vocabulary.specs.Test.{pick}
use Rattle.kinds.specs.declared.TaskSet.{TaskSet}
use Rattle.kinds.specs.Build.{tables_of, in_tables}
use Rattle.kinds.specs.Limits.{task_counts, processor_counts, pattern_counts, most_links, no_key}
use Rattle.kinds.specs.Editions.{editions}
use Rattle.kinds.specs.Tasks.{Tasks, tasks_of}
use Rattle.kinds.specs.declared.Counts.{Counts}
use Rattle.kinds.specs.declared.Cycle.{Cycle}
use Rattle.kinds.specs.Cycle.{cycle_is, cycle_fits}
use Rattle.numbers.specs.declared.Refusal.{Refusal}
use Rattle.numbers.specs.declared.Refusal.TheVariants as refusal
use Rattle.heads.specs.declared.Opening.{Opening}
use Rattle.heads.specs.declared.Progress.{Progress}
use Rattle.numbers.specs.Numbers.{got_at, and_then}
use Rattle.heads.specs.Tables.{Outcome, Linked, TasksRead, PatternTables, PatternRead, PatternsRead, tasks_from, progress, pattern_from, patterns_from}

-- ---- what each part answers: what it read with the place after it, or why the file is refused
abbrev pub OpeningRead : Type 0
OpeningRead = Result (Opening × ℕ) Refusal

-- the cycle, the pattern count, and the place after it
abbrev pub Middle : Type 0
Middle = Result (Cycle × ℕ × ℕ) Refusal

abbrev pub Head : Type 0
Head = Result (Counts × ℕ) Refusal

abbrev pub opening : ℕ → ℕ → ℕ → Opening
opening e n m = record { edition = e; tasks = n; processors = m }

-- edition, task count and m: 3 and 4 (rules R6.3, R6.4)
unfoldable pub opening_of : List ℕ → OpeningRead
opening_of s =
    and_then (got_at s 0 editions refusal.UnknownEdition) λ e p₁.
    and_then (got_at s p₁ task_counts (refusal.OutOfLimits p₁)) λ n p₂.
    and_then (got_at s p₂ processor_counts (refusal.OutOfLimits p₂)) λ m p₃.
    Ok (opening e n m, p₃)

-- after the tasks t rules R6.5 and R6.12: 5 before anything behind; then the pattern count
unfoldable pub middle_from : List ℕ → ℕ → Tasks → Middle
middle_from s at t =
    pick (cycle_fits t)
    (and_then (got_at s at pattern_counts (refusal.OutOfLimits at)) λ k p. Ok (cycle_is t, k, p))
    (Err (refusal.TooLong at))

-- ---- the head: from the edition to the last pair, into lent tables
pub record HeadRead : Type 0 where
  pub outcome : Head
  pub tasks : List ℕ
  pub patterns : PatternTables

abbrev pub head_read : Head → List ℕ → PatternTables → HeadRead
head_read o t v = record { outcome = o; tasks = t; patterns = v }

unfoldable pub on_opening : OpeningRead → List ℕ → PatternTables → (ℕ → ℕ → ℕ → ℕ → HeadRead) → HeadRead
on_opening (Ok (o, p)) t v k = k o.edition o.tasks o.processors p
on_opening (Err r) t v k = head_read (Err r) t v

unfoldable pub on_tasks : Outcome → List ℕ → PatternTables → (ℕ → HeadRead) → HeadRead
on_tasks (Ok p) t v k = k p
on_tasks (Err r) t v k = head_read (Err r) t v

unfoldable pub on_middle : Middle → List ℕ → PatternTables → (Cycle → ℕ → ℕ → HeadRead) → HeadRead
on_middle (Ok (c, k, p)) t v f = f c k p
on_middle (Err r) t v f = head_read (Err r) t v

-- Rules R6.7 and R6.12: after the last pattern 9, for too many links, before anything behind
unfoldable pub on_patterns : Linked → List ℕ → PatternTables → Counts → HeadRead
on_patterns (Ok (p, l)) t v f = head_read (pick (leb l most_links) (Ok (f, p)) (Err (refusal.TooManyLinks p))) t v
on_patterns (Err r) t v f = head_read (Err r) t v

-- the numbers of the head: what stands before the tasks and after them, and the cycle
abbrev pub counts_are : ℕ → ℕ → ℕ → ℕ → Cycle → Counts
counts_are e m n k c = record { edition = e; processors = m; tasks = n; patterns = k; ticks = c.ticks; jobs = c.jobs }

-- one of its patterns, and all, where the tasks stand in a table
abbrev pub pattern_after : List ℕ → Progress → ℕ → Counts → List ℕ → PatternTables → PatternRead
pattern_after s done i f t v = pattern_from s f.edition (tasks_of f.tasks t) f.ticks i done v

abbrev pub patterns_after : List ℕ → ℕ → Counts → List ℕ → PatternTables → PatternsRead
patterns_after s at f t v = patterns_from s f.edition (tasks_of f.tasks t) f.ticks f.patterns 0 (progress at no_key 0 0) v

unfoldable pub head_from : List ℕ → List ℕ → PatternTables → HeadRead
head_from s t v =
    on_opening (opening_of s) t v λ e n m p₀.
    let r : TasksRead = tasks_from s n 0 p₀ t in
    on_tasks r.outcome r.table v λ p₁.
    on_middle (middle_from s p₁ (tasks_of n r.table)) r.table v λ c k p₂.
    let w : PatternsRead = patterns_after s p₂ (counts_are e m n k c) r.table v in
    on_patterns w.outcome r.table w.tables (counts_are e m n k c)

-- ---- the set of a head: its numbers and its tables
abbrev pub set_of : Counts → List ℕ → PatternTables → TaskSet
set_of f t v = in_tables f (tables_of t v.headings v.pairs)
