-- The file of a sound set and a plan is read: its head as the set, and then the slots.
use Rattle.std.specs.Prelude.{◌≡◌, refl, true, List, ◌++◌, ℕ, zero, suc, ◌+◌, ◌-◌, ◌*◌, ◌<◌, ◌≤◌, length, get_or, Ok}
use Rattle.std.proofs.Common.{sym, ap, subst, ◌∙◌, arith, le-ltb, length-append, get_or-append-add}
use Rattle.std.proofs.lemmas.Bool.{lt-leb}
use Rattle.vocabulary.proofs.Total.{total_none}
use Rattle.vocabulary.specs.Table.{join}
use Rattle.vocabulary.specs.Parts.{PartAt}
use Rattle.vocabulary.proofs.Parts.{part_first, part_front, part_back, part_move}
use Rattle.kinds.specs.declared.Counts.{Counts}
use Rattle.kinds.specs.Limits.{pattern_counts, no_key}
use Rattle.kinds.specs.Tasks.{Tasks, Patterns, Set, tasks_of, view}
use Rattle.kinds.specs.Cycle.{cycle, cycle_fits, cycle_is}
use Rattle.kinds.specs.Links.{links_of}
use Rattle.kinds.specs.Sound.{sound}
use Rattle.kinds.specs.RangeLaws.{holds_at}
use Rattle.kinds.proofs.SoundFacts.{Sound, sound_facts}
use Rattle.kinds.proofs.PatternWalk.{pattern_key_none, before_none}
use Rattle.kinds.proofs.WhatCounts.{Agree, cycle_agree, jobs_agree}
use Rattle.slots.specs.High.{high}
use Rattle.numbers.specs.declared.Refusal.TheVariants as refusal
use Rattle.numbers.specs.Numbers.{number_bytes, and_then}
use Rattle.heads.specs.Tables.{TasksRead, tasks_from, no_attributes, no_pattern_tables, progress, PatternsRead}
use Rattle.heads.specs.Heads.{counts_are, patterns_after, middle_from, HeadRead, head_read, on_opening, on_tasks, on_middle, on_patterns, head_from}
use Rattle.heads.proofs.HeadLaws.{head_of, set_in, head_sound}
use Rattle.reader.specs.Files.{slots_from, loaded, on_slots, on_head, read_of, outcome_read, set_read}
use Rattle.writer.specs.Format.{head_bytes, bytes_of}
use Rattle.writer.specs.FormatLaws.{task_bytes, pattern_bytes, opening_bytes, head_bytes_lem}
use Rattle.theorems.specs.NumbersRead.{got_at_lem, opening_read}
use Rattle.theorems.specs.TablesRead.{Tests, tests, blank, TasksCome, tasks_read_lem}
use Rattle.theorems.specs.PatternsRead.{join_none, Ahead, Come, PatternsCome, patterns_read_lem}

-- ---- the head
-- a file whose head is read as the set s, which ends where the bytes of s do
pub record HeadReadAs (s : Set) (file : List ℕ) : Type 0 where
  pub counts : Counts
  pub is : (head_of file).outcome ≡ Ok (counts, length (head_bytes s))
  pub agree : Agree s (view (set_in (head_of file) counts))

module _ (s : Set) (ok : sound s ≡ true) (file : List ℕ) (part : PartAt file 0 (head_bytes s)) where
  abbrev u : Tasks
  u = s.tasks

  abbrev v : Patterns
  v = s.patterns

  facts : Sound s
  facts = sound_facts s ok

  kept : Tests s
  kept = tests s ok

  -- the four parts, and their places
  abbrev o : List ℕ
  o = opening_bytes s

  abbrev ts : List ℕ
  ts = join (task_bytes u) u.count

  abbrev c : List ℕ
  c = number_bytes v.count

  abbrev ps : List ℕ
  ps = join (pattern_bytes v) v.count

  abbrev p₁ : ℕ
  p₁ = length o + length ts

  abbrev p₂ : ℕ
  p₂ = p₁ + length c

  whole : PartAt file 0 (o ++ ts ++ c ++ ps)
  whole = rw (head_bytes_lem s) at part

  to_count : PartAt file 0 (o ++ ts ++ c)
  to_count = part_front file 0 (o ++ ts ++ c) ps whole

  to_tasks : PartAt file 0 (o ++ ts)
  to_tasks = part_front file 0 (o ++ ts) c to_count

  tasks_part : PartAt file (length o) ts
  tasks_part = part_move file (0 + length o) (length o) ts (omega arith) (part_back file 0 o ts to_tasks)

  count_part : PartAt file p₁ c
  count_part = part_move file (0 + length (o ++ ts)) p₁ c (omega (arith, length-append o ts)) (part_back file 0 (o ++ ts) c to_count)

  patterns_part : PartAt file p₂ ps
  patterns_part =
      part_move file (0 + length (o ++ ts ++ c)) p₂ ps (omega (arith, length-append o ts, length-append (o ++ ts) c))
      (part_back file 0 (o ++ ts ++ c) ps whole)

  ends : p₂ + length ps ≡ length (head_bytes s)
  ends = rw (head_bytes_lem s) (omega (arith, length-append o ts, length-append (o ++ ts) c, length-append (o ++ ts ++ c) ps))

  -- the tasks
  abbrev r : TasksRead
  r = tasks_from file u.count 0 (length o) no_attributes

  tasks_are : TasksCome file u (length o) r
  tasks_are =
      tasks_read_lem file u (length o) facts.few_tasks kept.tasks tasks_part u.count 0 (length o) no_attributes (omega arith)
      (omega (arith, join_none (task_bytes u))) (blank u.attributes 256 (4 * 0) (omega arith))

  abbrev read : Tasks
  read = tasks_of u.count r.table

  -- s with the tasks that were read
  tasks_agree : Agree s (record { edition = s.edition; processors = s.processors; tasks = read; patterns = v })
  tasks_agree =
      record {
        edition = refl;
        processors = refl;
        task_count = refl;
        attributes = λ x l. sym (tasks_are.table.same x l);
        pattern_count = refl;
        headings = λ x l. refl;
        pairs = λ x l. refl;
      }

  same_cycle : cycle u ≡ cycle read
  same_cycle = cycle_agree s _ tasks_agree

  cycle_fits_lem : cycle_fits read ≡ true
  unfolding cycle_fits
  cycle_fits_lem = rw (← same_cycle, ← jobs_agree s _ tasks_agree) kept.cycle

  -- the pattern count
  middle_is : middle_from file p₁ read ≡ Ok (cycle_is read, v.count, p₂)
  unfolding middle_from and_then
  middle_is =
      let l = holds_at 0 65 v.count kept.patterns in
      rw (cycle_fits_lem, got_at_lem file p₁ pattern_counts (refusal.OutOfLimits p₁) v.count kept.patterns (omega (arith, l.1)) count_part)

  -- the patterns
  abbrev counts : Counts
  counts = counts_are s.edition s.processors u.count v.count (cycle_is read)

  abbrev w : PatternsRead
  w = patterns_after file p₂ counts r.table no_pattern_tables

  found : Ahead s.edition u v r.table (cycle read)
  found =
      record {
        tasks = facts.few_tasks;
        patterns = facts.few_patterns;
        periods = λ i l. (facts.some_period i l, facts.low_period i l);
        fits = kept.each;
        table = tasks_are.table;
        ticks = sym same_cycle;
      }

  none_yet : Come u v p₂ 0 (progress p₂ no_key 0 0) no_pattern_tables
  none_yet =
      record {
        at = omega (arith, join_none (pattern_bytes v));
        low = sym (pattern_key_none v);
        used = sym (before_none v);
        links = sym (total_none (links_of u v));
        headings = blank v.headings 192 (3 * 0) (omega arith);
        pairs = blank v.pairs 2048 _ (omega (arith, before_none v));
      }

  patterns_are : PatternsCome u v p₂ w
  patterns_are =
      patterns_read_lem file s.edition u v r.table (cycle read) p₂ found patterns_part v.count 0 (progress p₂ no_key 0 0) no_pattern_tables
      (omega arith) none_yet

  head_is : head_of file ≡ head_read (Ok (counts, length (head_bytes s))) r.table w.tables
  unfolding head_from on_opening on_tasks on_middle on_patterns
  head_is =
      let begin = opening_read file s.edition u.count s.processors kept.opening (part_front file 0 o ts to_tasks) in
      rw (begin, tasks_are.to, middle_is, patterns_are.to, kept.links, ends)

  read_agree : Agree s (view (set_in (head_read (Ok (counts, length (head_bytes s))) r.table w.tables) counts))
  read_agree =
      record {
        edition = refl;
        processors = refl;
        task_count = refl;
        attributes = λ x l. sym (tasks_are.table.same x l);
        pattern_count = refl;
        headings = λ x l. sym (patterns_are.headings.same x l);
        pairs = λ x l. sym (patterns_are.pairs.same x l);
      }

  read_as_lem : HeadReadAs s file
  read_as_lem =
      record {
        counts = counts;
        is = ap (λ (x : HeadRead). x.outcome) head_is;
        agree = subst (λ (x : HeadRead). Agree s (view (set_in x counts))) (sym head_is) read_agree;
      }

-- ==== The bytes of a sound set's head are read as that set, whatever stands behind them.
pub head_read_lem : (s : Set) → sound s ≡ true → (file : List ℕ) → PartAt file 0 (head_bytes s) → HeadReadAs s file
head_read_lem s ok file part = read_as_lem s ok file part

-- ---- slots that are all there, none too high, and nothing left over
slots_read : (file : List ℕ) (n k at : ℕ) → at + k ≡ length file → ((j : ℕ) → at ≤ j → j < length file → get_or file j 0 ≤ n)
    → slots_from file k at n ≡ Ok (length file)
unfolding slots_from high
slots_read file n zero at e low = rw (le-ltb at (length file) (omega arith)) (ap Ok (omega arith))
slots_read file n (suc k) at e low =
    rw (lt-leb (length file) at (omega arith), le-ltb n (get_or file at 0) (low at (omega arith) (omega arith)))
    (slots_read file n k (at + 1) (omega arith) (λ j a b. low j (omega arith) b))

module _ (s : Set) (slots : List ℕ) (ok : sound s ≡ true) (long : length slots ≡ s.processors * cycle s.tasks)
    (low : (e : ℕ) → e < length slots → get_or slots e 0 ≤ s.tasks.count) where
  abbrev file : List ℕ
  file = head_bytes s ++ slots

  abbrev begin : ℕ
  begin = length (head_bytes s)

  headed : HeadReadAs s file
  headed = head_read_lem s ok file (part_first (head_bytes s) slots)

  abbrev f : Counts
  f = headed.counts

  number : f.processors * f.ticks ≡ length slots
  number =
      let t : f.ticks ≡ cycle s.tasks = (head_sound file f begin headed.is).ticks ∙ sym (cycle_agree s _ headed.agree) in
      rw (t, ← headed.agree.processors) (sym long)

  slot_low : (j : ℕ) → begin ≤ j → j < length file → get_or file j 0 ≤ f.tasks
  slot_low j a b =
      let e : ℕ = j - begin in
      let z : begin + e ≡ j = omega arith in
      let at : get_or file j 0 ≡ get_or slots e 0 = rw z at (get_or-append-add (head_bytes s) slots e 0) in
      omega (arith, at, low e (omega (arith, length-append (head_bytes s) slots)), headed.agree.task_count)

  slots_are : slots_from file (f.processors * f.ticks) begin f.tasks ≡ Ok (length file)
  slots_are = slots_read file f.tasks (f.processors * f.ticks) begin (omega (arith, number, length-append (head_bytes s) slots)) slot_low

  read_is : read_of file ≡ Ok (loaded (set_in (head_of file) f) begin)
  unfolding read_of on_head on_slots
  read_is = rw (headed.is, slots_are)

-- ==== The file of a sound set and of as many slots as a cycle has, none above the task count, is read as that set.
pub file_read_lem : (s : Set) (slots : List ℕ) → sound s ≡ true → length slots ≡ s.processors * cycle s.tasks
    → ((e : ℕ) → e < length slots → get_or slots e 0 ≤ s.tasks.count)
    → (outcome_read (bytes_of s slots) ≡ Ok (length (head_bytes s))) × Agree s (view (set_read (bytes_of s slots)))
unfolding bytes_of
file_read_lem s slots ok long low =
    let e = read_is s slots ok long low in
    rw e (refl, (headed s slots ok long low).agree)
