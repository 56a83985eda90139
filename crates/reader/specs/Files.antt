-- A whole plan file, which is a head, slots and the end, and the head alone.
use Rattle.std.specs.Prelude.{List, ℕ, zero, suc, ◌+◌, ◌*◌, leb, ltb, eqb, length, Option, Some, None, unwrap_or, Result, Ok, Err}
use Rattle.vocabulary.specs.Test.{pick}
use Rattle.kinds.specs.declared.TaskSet.{TaskSet}
use Rattle.kinds.specs.declared.Counts.{Counts}
use Rattle.kinds.specs.Build.{no_tasks}
use Rattle.slots.specs.High.{high}
use Rattle.numbers.specs.declared.Refusal.{Refusal}
use Rattle.numbers.specs.declared.Refusal.TheVariants as refusal
use Rattle.reader.specs.declared.Loaded.{Loaded}
use Rattle.heads.specs.Tables.{Outcome, PatternTables, no_attributes, no_pattern_tables}
use Rattle.heads.specs.Heads.{Head, HeadRead, head_from, set_of}

-- ---- the slots, and the end
-- Rule R5.4: k slots more, from a place, each a byte that is not above n; then nothing
unfoldable pub slots_from : List ℕ → ℕ → ℕ → ℕ → Outcome
slots_from s zero at n = pick (ltb at (length s)) (Err (refusal.LeftOver at)) (Ok at)
slots_from s (suc k) at n =
    let r : Outcome = slots_from s k (at + 1) n in
    pick (leb (length s) at) (Err (refusal.Ends (length s))) (pick (high s n at) (Err (refusal.BadSlot at)) r)

-- ---- the whole file
-- what a file answers: its set and the place of its first slot, or why it is refused
abbrev pub Answer : Type 0
Answer = Result Loaded Refusal

abbrev pub loaded : TaskSet → ℕ → Loaded
loaded u at = record { set = u; first_slot = at }

unfoldable pub on_slots : Outcome → Answer → Answer
on_slots (Ok q) l = l
on_slots (Err r) l = Err r

-- after a head: the place of the first slot, where m·H slots and the end follow
unfoldable pub on_end : Outcome → ℕ → Outcome
on_end (Ok q) at = Ok at
on_end (Err r) at = Err r

abbrev pub ended_of : List ℕ → ℕ → Counts → Outcome
ended_of s at f = on_end (slots_from s (f.processors * f.ticks) at f.tasks) at

-- after a head with the set u: m·H slots, and the end
abbrev pub closed_of : List ℕ → ℕ → Counts → TaskSet → Answer
closed_of s at f u = on_slots (slots_from s (f.processors * f.ticks) at f.tasks) (Ok (loaded u at))

unfoldable pub on_head : List ℕ → Head → List ℕ → PatternTables → Answer
on_head s (Ok (f, at)) t v = closed_of s at f (set_of f t v)
on_head s (Err r) t v = Err r

-- Rule R5.5: a file that is read gives its set and the place of its first slot, and any other its refusal.
unfoldable pub read_of : List ℕ → Answer
read_of s = let r : HeadRead = head_from s no_attributes no_pattern_tables in on_head s r.outcome r.tasks r.patterns

-- the same without the set
abbrev pub outcome_of : Answer → Outcome
outcome_of (Ok l) = Ok l.first_slot
outcome_of (Err r) = Err r

abbrev pub outcome_read : List ℕ → Outcome
outcome_read s = outcome_of (read_of s)

-- Rule R5.5: the set of a file, which is the empty one where the file is refused
abbrev pub set_or_none : Answer → TaskSet
set_or_none (Ok l) = l.set
set_or_none (Err r) = no_tasks 0 0

abbrev pub set_read : List ℕ → TaskSet
set_read s = set_or_none (read_of s)

-- ---- Rule R12.1: the head alone, as C passes tasks and m; bytes that are refused and bytes left over are not taken
-- a head with the set u that ends at a place of so many bytes
abbrev pub whole_of : ℕ → ℕ → TaskSet → Option TaskSet
whole_of at len u = pick (eqb at len) (Some u) None

unfoldable pub take_head : List ℕ → Head → List ℕ → PatternTables → Option TaskSet
take_head s (Ok (f, at)) t v = whole_of at (length s) (set_of f t v)
take_head s (Err r) t v = None

unfoldable pub taken_of : List ℕ → Option TaskSet
taken_of s = let r : HeadRead = head_from s no_attributes no_pattern_tables in take_head s r.outcome r.tasks r.patterns

-- the set that is taken, which is the empty one where none is
abbrev pub set_taken : List ℕ → TaskSet
set_taken s = unwrap_or (taken_of s) (no_tasks 0 0)

-- ---- the head alone, for a caller that lends tables: the numbers of a head that ends where the bytes do
pub record WholeRead : Type 0 where
  pub counts : Option Counts
  pub tasks : List ℕ
  pub patterns : PatternTables

abbrev pub whole_read : Option Counts → List ℕ → PatternTables → WholeRead
whole_read f t v = record { counts = f; tasks = t; patterns = v }

unfoldable pub whole_counts : Head → ℕ → Option Counts
whole_counts (Ok (f, at)) len = pick (eqb at len) (Some f) None
whole_counts (Err r) len = None

-- the tables are as the head leaves them, whole or not
unfoldable pub whole_from : List ℕ → PatternTables → WholeRead
whole_from s v = let r : HeadRead = head_from s no_attributes v in whole_read (whole_counts r.outcome (length s)) r.tasks r.patterns
