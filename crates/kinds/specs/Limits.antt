-- The numbers that are allowed (docs/RULES.md, section 4), each as a range. The reader refuses by these ranges, and rule 10 tests a lent set by the same.
use Rattle.std.specs.Prelude.{Bool, ◌&&◌, ℕ, ◌+◌, leb, ltb, eqb}
use Rattle.vocabulary.specs.Test.{pick}
use Rattle.kinds.specs.declared.Key.{Key}

-- the numbers from low up to, but not with, limit
pub record Range : Type 0 where
  pub low : ℕ
  pub limit : ℕ

abbrev pub range : ℕ → ℕ → Range
range l u = record { low = l; limit = u }

unfoldable pub holds : Range → ℕ → Bool
holds r v = leb r.low v && ltb v r.limit

-- Rule R4.2: 1 to 64 tasks.
abbrev pub task_counts : Range
task_counts = range 1 65

-- Rule R4.3: 1 to 8 processors.
abbrev pub processor_counts : Range
processor_counts = range 1 9

-- Rules R4.4 and R6.13: T is 1 to 6,000, and C, O and D are held to what was read before them, C to T, O to T, D to C and T.
abbrev pub periods : Range
periods = range 1 6001

abbrev pub runnings : ℕ → Range
runnings t = range 1 (t + 1)

abbrev pub offsets : ℕ → Range
offsets t = range 0 t

abbrev pub deadlines : ℕ → ℕ → Range
deadlines t c = range c (t + 1)

-- Rule R4.5: a cycle of at most 6,000 ticks.
abbrev pub longest_cycle : ℕ
longest_cycle = 6000

-- Rule R4.6: at most 2,048 jobs in a cycle.
abbrev pub most_jobs : ℕ
most_jobs = 2048

-- Rules R4.7 and R4.8: at most 64 patterns, and at most 1,024 pairs in all.
abbrev pub pattern_counts : Range
pattern_counts = range 0 65

abbrev pub fewest_pairs : ℕ
fewest_pairs = 1

abbrev pub most_pairs : ℕ
most_pairs = 1024

-- Rule R4.9: at most 4,096 links in a cycle.
abbrev pub most_links : ℕ
most_links = 4096

-- Rule R4.11: patterns rise strictly, and so do the pairs of one. The key is the lowest pair of numbers that may come next: at first (0, 0), and
-- (x, y + 1) after (x, y). So a first number is in order from the key's first on, and a second from the key's second on where the first numbers
-- are equal, else from 0 on.
abbrev pub key : ℕ → ℕ → Key
key x y = record { first = x; second = y }

abbrev pub no_key : Key
no_key = key 0 0

abbrev pub after : ℕ → ℕ → Key
after x y = key x (y + 1)

abbrev pub first_range : Key → ℕ → Range
first_range k limit = range k.first limit

abbrev pub second_range : Key → ℕ → ℕ → Range
second_range k x limit = range (pick (eqb x k.first) k.second 0) limit

-- two numbers in their ranges and in order
unfoldable pub rises : Key → ℕ → ℕ → ℕ → ℕ → Bool
rises k limitA limitB x y = holds (first_range k limitA) x && holds (second_range k x limitB) y
