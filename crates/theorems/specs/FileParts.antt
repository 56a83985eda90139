-- A file that is read: its tasks and its plan, as an executive has them, and how long it can be.
use Rattle.std.specs.Prelude.{◌≡◌, true, List, ℕ, ◌+◌, ◌*◌, ◌<◌, ◌≤◌, get_or, take, drop, Some, Ok, Err}
use Rattle.std.proofs.Math.Path.{refl}
use Rattle.std.proofs.Common.{mul-le-mul, arith, length-drop, get_or-drop}
use borrow.Author.Tests.{eq-eqb}
use Rattle.std.proofs.Math.ListN.{length, length-take}
use Rattle.kinds.specs.declared.Counts.{Counts}
use Rattle.kinds.specs.Tasks.{Set, view}
use Rattle.kinds.specs.Cycle.{cycle}
use Rattle.kinds.specs.Sound.{sound}
use Rattle.kinds.proofs.SoundFacts.{sound_facts}
use Rattle.numbers.specs.declared.Refusal.{Refusal}
use Rattle.numbers.specs.declared.Refusal.TheVariants as refusal
use Rattle.numbers.specs.Results.{err_ok, same_ok}
use Rattle.heads.specs.Tables.{Outcome, no_attributes, no_pattern_tables}
use Rattle.heads.specs.Heads.{Head}
use Rattle.heads.proofs.HeadLaws.{head_of, set_in}
use Rattle.numbers.specs.Answers.{refusal_number}
use Rattle.reader.specs.Answers.{number_of, evidence_of}
use Rattle.reader.specs.Files.{slots_from, loaded, on_slots, on_head, read_of, outcome_of, outcome_read, set_read, take_head, taken_of}
use Rattle.reader.proofs.ReadLaws.{read_sound, read_long, read_slots}
use Rattle.theorems.specs.NumberPlaces.{same_part}
use Rattle.theorems.specs.HeadPlaces.{head_place}

-- ---- a file whose first slot has place p: its head ends there
pub record HeadedAt (file : List ℕ) (p : ℕ) : Type 0 where
  pub counts : Counts
  pub is : (head_of file).outcome ≡ Ok (counts, p)
  pub set : set_read file ≡ set_in (head_of file) counts

module _ (s : List ℕ) (p : ℕ) where
  by_slots : (f : Counts) (at : ℕ) → (head_of s).outcome ≡ Ok (f, at) → (o : Outcome) → slots_from s (f.processors * f.ticks) at f.tasks ≡ o
      → outcome_of (on_slots o (Ok (loaded (set_in (head_of s) f) at))) ≡ Ok p → HeadedAt s p
  unfolding read_of on_head on_slots
  by_slots f at a (Ok q) b e = let z : at ≡ p = same_ok e in record { counts = f; is = rw z at a; set = rw (a, b) }
  by_slots f at a (Err r) b e = absurd (err_ok e)

  pub headed : outcome_read s ≡ Ok p → HeadedAt s p
  unfolding read_of on_head
  headed e = by (head_of s).outcome refl e
    where
      by : (o : Head) → (head_of s).outcome ≡ o → outcome_of (on_head s o (head_of s).tasks (head_of s).patterns) ≡ Ok p → HeadedAt s p
      by (Ok (f, at)) a e = by_slots f at a (slots_from s (f.processors * f.ticks) at f.tasks) refl e
      by (Err r) a e = absurd (err_ok e)

-- ---- the place of the first slot, which the reader answers, and the two parts of the file
abbrev pub place_in : List ℕ → ℕ
place_in file = get_or (evidence_of (outcome_read file)) 0 0

abbrev pub tasks_in : List ℕ → List ℕ
tasks_in file = take (place_in file) file

abbrev pub plan_in : List ℕ → List ℕ
plan_in file = drop (place_in file) file

abbrev pub set_of_file : List ℕ → Set
set_of_file file = view (set_read file)

-- the parts before and after place p are the tasks and the plan of a file
pub record TwoParts (file : List ℕ) (p : ℕ) : Type 0 where
  pub within : p ≤ length file
  pub short : p ≤ 4868
  pub tasks : taken_of (take p file) ≡ Some (set_read file)
  pub is_sound : sound (set_of_file file) ≡ true
  pub long : length (drop p file) ≡ (set_of_file file).processors * cycle (set_of_file file).tasks
  pub low : (e : ℕ) → e < length (drop p file) → get_or (drop p file) e 0 ≤ (set_of_file file).tasks.count

module _ (file : List ℕ) (p : ℕ) (e : outcome_read file ≡ Ok p) where
  whole : HeadedAt file p → taken_of (take p file) ≡ Some (set_read file)
  unfolding taken_of take_head
  whole w =
      let a = head_place file no_attributes no_pattern_tables w.counts p w.is in
      let l : p ≤ length file = a.within (omega arith) in
      let n : length (take p file) ≡ p = omega (arith, length-take p file) in
      rw (a.again (take p file) (same_part file p l), w.is, n, eq-eqb p p refl, w.set)

  pub parts_at : TwoParts file p
  parts_at =
      let w = headed file p e in
      let a = head_place file no_attributes no_pattern_tables w.counts p w.is in
      let n = length-drop p file in
      let long : length file ≡ p + (set_of_file file).processors * cycle (set_of_file file).tasks = read_long file p e in
      record {
        within = a.within (omega arith);
        short = a.ends;
        tasks = whole w;
        is_sound = read_sound file p e;
        long = omega (arith, n, long);
        low = λ x l. rw (get_or-drop p file x 0) (read_slots file p e (p + x) (omega arith) (omega (arith, n, long)));
      }

-- a reader's answer with number 0 is a place
some_refusal : (r : Refusal) → refusal_number r ≡ 0 → ⊥
some_refusal (refusal.Ends p) e = omega arith
some_refusal (refusal.Malformed p) e = omega arith
some_refusal refusal.UnknownEdition e = omega arith
some_refusal (refusal.OutOfLimits p) e = omega arith
some_refusal (refusal.TooLong p) e = omega arith
some_refusal (refusal.Disordered p) e = omega arith
some_refusal (refusal.TooManyLinks p) e = omega arith
some_refusal (refusal.BadSlot p) e = omega arith
some_refusal (refusal.LeftOver p) e = omega arith

zero_reads : (o : Outcome) → number_of o ≡ 0 → o ≡ Ok (get_or (evidence_of o) 0 0)
zero_reads (Ok p) e = refl
zero_reads (Err r) e = absurd (some_refusal r e)

read_at : (file : List ℕ) → number_of (outcome_read file) ≡ 0 → outcome_read file ≡ Ok (place_in file)
read_at file e = zero_reads (outcome_read file) e

-- ==== Where the reader answers 0, the part before the place of the first slot is a head and nothing more, with the set that was read; the part from it on
-- has m·H slots, none above the task count.
pub read_parts : (file : List ℕ) → number_of (outcome_read file) ≡ 0 → TwoParts file (place_in file)
read_parts file e = parts_at file (place_in file) (read_at file e)

-- ==== A file that is read has at most 52,868 bytes.
pub longest_file : (file : List ℕ) → number_of (outcome_read file) ≡ 0 → length file ≤ 52868
longest_file file e =
    let p = read_parts file e in
    let f = sound_facts (set_of_file file) p.is_sound in
    omega (arith, p.short, read_long file (place_in file) (read_at file e), mul-le-mul f.few_processors f.low_cycle)
