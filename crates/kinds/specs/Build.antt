-- Task sets as the constructors make them: of numbers and tables, or step by step. A step that finds no room makes a set that rule 10 refuses.
use Rattle.std.specs.Prelude.{ℕ, ◌+◌, ◌-◌, ◌*◌, List, leb, ltb, eqb, set, replicate, get_or}
use Rattle.vocabulary.specs.Test.{pick}
use Rattle.kinds.specs.declared.Task.{Task}
use Rattle.kinds.specs.declared.Counts.{Counts}
use Rattle.kinds.specs.declared.Tables.{Tables}
use Rattle.kinds.specs.declared.TaskSet.{TaskSet}
use Rattle.kinds.specs.declared.SetView.{SetView}
use Rattle.kinds.specs.Tasks.{Tasks, Patterns, Set, tasks_of, patterns_of, task_of, pairs_in, put_task, put_heading, put_pair}

-- tables with 0 in every place, and tables by what they hold
abbrev pub no_tables : Tables
no_tables = record { attributes = replicate 256 0; headings = replicate 192 0; pairs = replicate 2048 0 }

abbrev pub tables_of : List ℕ → List ℕ → List ℕ → Tables
tables_of xs hs ps = record { attributes = xs; headings = hs; pairs = ps }

-- no task and no pattern: every entry is 0
abbrev pub no_tasks : ℕ → ℕ → TaskSet
no_tasks e m = record { edition = e; processors = m; tasks = 0; patterns = 0; tables = no_tables }

-- numbers and tables
abbrev pub in_tables : Counts → Tables → TaskSet
in_tables f t =
    record { edition = f.edition; processors = f.processors; tasks = f.tasks; patterns = f.patterns; tables = t }

-- what they stand for, where the tables are lent and no set is put together
abbrev pub lent_tasks : Counts → Tables → Tasks
lent_tasks f t = tasks_of f.tasks t.attributes

abbrev pub lent_patterns : Counts → Tables → Patterns
lent_patterns f t = patterns_of f.patterns t.headings t.pairs

abbrev pub lent_set : Counts → Tables → Set
lent_set f t =
    record { edition = f.edition; processors = f.processors; tasks = lent_tasks f t; patterns = lent_patterns f t }

-- the same of a set that is seen through a view
abbrev pub tasks_in : SetView → Tasks
tasks_in s = lent_tasks s.counts s.tables.now

abbrev pub patterns_in : SetView → Patterns
patterns_in s = lent_patterns s.counts s.tables.now

abbrev pub set_in : SetView → Set
set_in s = lent_set s.counts s.tables.now

-- no room for what is added: a task too many is counted
abbrev pub overfull : TaskSet → TaskSet
overfull s = record { edition = s.edition; processors = s.processors; tasks = 65; patterns = s.patterns; tables = s.tables }

-- a task more
abbrev pub plus_task : TaskSet → Task → TaskSet
plus_task s t =
    record {
      edition = s.edition;
      processors = s.processors;
      tasks = s.tasks + 1;
      patterns = s.patterns;
      tables = tables_of (put_task s.tables.attributes s.tasks t) s.tables.headings s.tables.pairs;
    }

unfoldable pub with_task : TaskSet → ℕ → ℕ → ℕ → ℕ → TaskSet
with_task s t c o d = pick (leb 64 s.tasks) (overfull s) (plus_task s (task_of t c o d))

-- a pattern more, without pairs
abbrev pub plus_pattern : TaskSet → ℕ → ℕ → TaskSet
plus_pattern s x y =
    record {
      edition = s.edition;
      processors = s.processors;
      tasks = s.tasks;
      patterns = s.patterns + 1;
      tables = tables_of s.tables.attributes (put_heading s.tables.headings s.patterns x y 0) s.tables.pairs;
    }

unfoldable pub with_pattern : TaskSet → ℕ → ℕ → TaskSet
with_pattern s x y = pick (leb 64 s.patterns) (overfull s) (plus_pattern s x y)

-- a pair more, at place x, for pattern k
abbrev pub plus_pair : TaskSet → ℕ → ℕ → ℕ → ℕ → TaskSet
plus_pair s k x a b =
    let hs : List ℕ = s.tables.headings in
    record {
      edition = s.edition;
      processors = s.processors;
      tasks = s.tasks;
      patterns = s.patterns;
      tables = tables_of s.tables.attributes (set hs (3 * k + 2) (get_or hs (3 * k + 2) 0 + 1)) (put_pair s.tables.pairs x a b);
    }

-- a pair more for the last pattern, where there is one and the pairs in all leave room
unfoldable pub with_pair : TaskSet → ℕ → ℕ → TaskSet
with_pair s a b =
    pick (eqb s.patterns 0) (overfull s)
    (pick (ltb 64 s.patterns) (overfull s)
    (pick (leb 1024 (pairs_in s.tables.headings s.patterns)) (overfull s)
    (plus_pair s (s.patterns - 1) (pairs_in s.tables.headings s.patterns) a b)))
