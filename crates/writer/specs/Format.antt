-- Rule R5.8: the plan file as one definition. A file is the bytes of its head's numbers, one number after another, and then the slots.
use Rattle.std.specs.Prelude.{List, [], ◌∷◌, ◌++◌, ℕ}
use Rattle.vocabulary.specs.Table.{join}
use Rattle.kinds.specs.declared.Task.{Task}
use Rattle.kinds.specs.Tasks.{Tasks, Patterns, Set, task_at, from_task, to_task, pair_count, pair_first, pair_second}
use Rattle.numbers.specs.Numbers.{number_bytes}

-- ---- the numbers of a head
-- T, C, O and D of a task
abbrev pub numbers_of : Task → List ℕ
numbers_of t = t.period ∷ t.running ∷ t.offset ∷ t.deadline ∷ []

abbrev pub task_numbers : Tasks → ℕ → List ℕ
task_numbers u i = numbers_of (task_at u.attributes i)

-- the two numbers of pair q of pattern k
abbrev pub pair_numbers : Patterns → ℕ → ℕ → List ℕ
pair_numbers v k q = pair_first v k q ∷ pair_second v k q ∷ []

-- pattern k: its two tasks, its pair count and its pairs
abbrev pub pattern_numbers : Patterns → ℕ → List ℕ
pattern_numbers v k = (from_task v k ∷ to_task v k ∷ pair_count v k ∷ []) ++ join (pair_numbers v k) (pair_count v k)

-- edition, task count and m; the tasks; the pattern count; the patterns
unfoldable pub head_numbers : Set → List ℕ
head_numbers s =
    (s.edition ∷ s.tasks.count ∷ s.processors ∷ [])
    ++ join (task_numbers s.tasks) s.tasks.count
    ++ (s.patterns.count ∷ [])
    ++ join (pattern_numbers s.patterns) s.patterns.count

-- ---- their bytes
unfoldable pub bytes_in : List ℕ → List ℕ
bytes_in [] = []
bytes_in (v ∷ vs) = number_bytes v ++ bytes_in vs

unfoldable pub head_bytes : Set → List ℕ
head_bytes s = bytes_in (head_numbers s)

-- the file of a set and a plan
unfoldable pub bytes_of : Set → List ℕ → List ℕ
bytes_of s slots = head_bytes s ++ slots
