-- What a plan file is: a byte string is read exactly when it is the bytes of a sound set and of a plan for it; and the two round trips of reader and writer.
use Rattle.std.specs.Prelude.{◌≡◌, refl, Bool, true, false, List, ◌++◌, ◌⊎◌, ◌↔◌, ℕ, ◌+◌, ◌*◌, ◌<◌, ◌≤◌, length, get_or, take, drop, eqb, Some, None, is_some}
use Rattle.std.specs.Prelude.{Ok, Err}
use Rattle.std.proofs.Common.{sym, ap, ◌∙◌, subst, inl, inr, arith, ext_get_or, take_at, drop_at, le-ltb, eqb-true}
use Rattle.vocabulary.specs.Test.{pick}
use Rattle.vocabulary.proofs.Test.{clash, lt_or_le}
use Rattle.vocabulary.specs.Least.{some}
use Rattle.vocabulary.proofs.Least.{none}
use Rattle.vocabulary.specs.Keep.{Row}
use Rattle.vocabulary.specs.Parts.{PartAt}
use Rattle.vocabulary.proofs.Parts.{part_whole}
use Rattle.kinds.specs.declared.TaskSet.{TaskSet}
use Rattle.kinds.specs.Build.{tables_of}
use Rattle.kinds.specs.Tasks.{Set, view, pairs_in}
use Rattle.kinds.specs.Cycle.{cycle}
use Rattle.kinds.specs.Sound.{sound}
use Rattle.kinds.proofs.Blank.{Blank}
use Rattle.kinds.proofs.WhatCounts.{Agree, before_agree}
use Rattle.slots.specs.High.{high}
use Rattle.slots.proofs.HighLaws.{all_low}
use Rattle.numbers.specs.Numbers.{number_at, number_bytes}
use Rattle.numbers.specs.Forms.{Bytes, form_read, read_form}
use Rattle.kinds.specs.declared.Counts.{Counts}
use Rattle.heads.specs.Heads.{Head}
use Rattle.heads.proofs.HeadLaws.{head_of, set_in}
use Rattle.reader.specs.Answers.{number_of}
use Rattle.reader.specs.Files.{loaded, read_of, outcome_of, outcome_read, set_or_none, set_read, take_head, taken_of, set_taken}
use Rattle.reader.proofs.ReadLaws.{read_is, read_blank}
use Rattle.writer.specs.Format.{head_bytes, bytes_of}
use Rattle.writer.specs.Writing.{written_of, left_in, write_leaves, write_for, write_head_for}
use Rattle.writer.proofs.Order.{answered, answers}
use Rattle.theorems.specs.FileParts.{parts_at, longest_file}
use Rattle.theorems.specs.HeadForms.{head_form, file_form}
use Rattle.theorems.specs.FormsRead.{file_read_lem}

-- ==== Every number below 2,097,152 has exactly one form that is read, and no other number has one.
pub one_form : (xs : List ℕ) → Bytes xs → (v : ℕ) → (number_at xs 0 ≡ Ok (v, length xs)) ↔ ((v < 2097152) × (xs ≡ number_bytes v))
one_form xs bytes v = (there, λ w. back w.0 w.1)
  where
    there : number_at xs 0 ≡ Ok (v, length xs) → (v < 2097152) × (xs ≡ number_bytes v)
    there e =
        let f = read_form xs bytes 0 v (length xs) e in
        (f.low, part_whole xs (number_bytes v) (omega (arith, f.ends)) f.bytes)

    back : v < 2097152 → xs ≡ number_bytes v → number_at xs 0 ≡ Ok (v, length xs)
    back l e =
        let p : PartAt xs 0 (number_bytes v) =
        record { within = omega (arith, ap length e); entry = λ j h. let z : 0 + j ≡ j = omega arith in rw (z, e) } in
        form_read xs 0 v l p ∙ ap (λ (n : ℕ). Ok (v, n)) (omega (arith, ap length e))

-- ---- the file of a set: it is the bytes of the set and of m·H slots, none above the task count, and p is the place of the first slot
pub record FileOf (file : List ℕ) (s : Set) (p : ℕ) : Type 0 where
  pub is_sound : sound s ≡ true
  pub slots : List ℕ
  pub long : length slots ≡ s.processors * cycle s.tasks
  pub low : (e : ℕ) → e < length slots → get_or slots e 0 ≤ s.tasks.count
  pub is : file ≡ bytes_of s slots
  pub place : p ≡ length (head_bytes s)

-- ==== A byte string that is read is the file of the set that was read, with the place that was answered.
pub read_is_file : (file : List ℕ) → Bytes file → (p : ℕ) → outcome_read file ≡ Ok p → FileOf file (view (set_read file)) p
read_is_file file bytes p e =
    let f = file_form file bytes p e in
    let t = parts_at file p e in
    record { is_sound = t.is_sound; slots = drop p file; long = t.long; low = t.low; is = f.1; place = f.0 }

-- ==== The file of a set is read, with that place and a set that agrees in all that counts.
pub file_is_read : (file : List ℕ) (s : Set) (p : ℕ) → FileOf file s p → (outcome_read file ≡ Ok p) × Agree s (view (set_read file))
file_is_read file s p f = rw (f.is, f.place) (file_read_lem s f.slots f.is_sound f.long f.low)

-- ---- sets that agree, and hold 0 beyond what counts, are one
row_same : (xs ys : List ℕ) (size n : ℕ) → Row xs size n → Row ys size n → ((j : ℕ) → j < n → get_or xs j 0 ≡ get_or ys j 0) → xs ≡ ys
row_same xs ys size n r t h = ext_get_or 0 xs ys (r.long ∙ sym t.long) (λ j l. by j (lt_or_le j n))
  where
    by : (j : ℕ) → (j < n) ⊎ (n ≤ j) → get_or xs j 0 ≡ get_or ys j 0
    by j (inl a) = h j a
    by j (inr a) = r.beyond j a ∙ sym (t.beyond j a)

set_same : {e m n k e' m' n' k' : ℕ} {xs hs ps xs' hs' ps' : List ℕ} → e ≡ e' → m ≡ m' → n ≡ n' → k ≡ k' → xs ≡ xs' → hs ≡ hs' → ps ≡ ps'
    → ◌≡◌ {A = TaskSet} (record { edition = e; processors = m; tasks = n; patterns = k; tables = tables_of xs hs ps })
    (record { edition = e'; processors = m'; tasks = n'; patterns = k'; tables = tables_of xs' hs' ps' })
set_same a b c d e f g = rw (a, b, c, d, e, f, g)

blank_same : (s t : TaskSet) → Blank s → Blank t → Agree (view s) (view t) → s ≡ t
blank_same s t b d g =
    let pairs : pairs_in s.tables.headings s.patterns ≡ pairs_in t.tables.headings t.patterns =
    before_agree (view s) (view t) g s.patterns (omega arith) ∙ ap (pairs_in t.tables.headings) g.pattern_count in
    set_same g.edition g.processors g.task_count g.pattern_count
    (row_same s.tables.attributes t.tables.attributes 256 (4 * s.tasks) b.attributes (rw g.task_count d.attributes) g.attributes)
    (row_same s.tables.headings t.tables.headings 192 (3 * s.patterns) b.headings (rw g.pattern_count d.headings) g.headings)
    (row_same s.tables.pairs t.tables.pairs 2048 (2 * pairs_in s.tables.headings s.patterns) b.pairs (rw pairs d.pairs) g.pairs)

-- ==== A byte string is read exactly when it is the bytes of a sound set and of a plan of m·H slots within the task count, and then with that set and that
-- place. The set is one that the constructors make: what stands beyond its counts is 0.
pub read_exactly : (file : List ℕ) → Bytes file → (set : TaskSet) → Blank set → (p : ℕ) → (read_of file ≡ Ok (loaded set p)) ↔ FileOf file (view set) p
read_exactly file bytes set blank p = (there, back)
  where
    there : read_of file ≡ Ok (loaded set p) → FileOf file (view set) p
    there e =
        subst (λ (t : TaskSet). FileOf file (view t) p) (ap set_or_none e) (read_is_file file bytes p (ap outcome_of e))

    back : FileOf file (view set) p → read_of file ≡ Ok (loaded set p)
    back f =
        let w = file_is_read file (view set) p f in
        let z : set ≡ set_read file = blank_same set (set_read file) blank (read_blank file) w.1 in
        rw z (read_is file p w.0)

-- ---- the round trips
no_slot_high : (slots : List ℕ) (n : ℕ) → ((e : ℕ) → e < length slots → get_or slots e 0 ≤ n) → some (high slots n) (length slots) ≡ false
unfolding high
no_slot_high slots n low = none (high slots n) (length slots) (λ e l. le-ltb n (get_or slots e 0) (low e l))

-- a file that was written, where out is what the buffer held: reading the written part gives the same set, in all that counts, and the same plan
pub record ReadsBack (s : Set) (slots file : List ℕ) : Type 0 where
  pub read : outcome_read file ≡ Ok (length (head_bytes s))
  pub set : Agree s (view (set_read file))
  pub plan : drop (length (head_bytes s)) file ≡ slots

left_file : (s : Set) (slots out : List ℕ) (n : ℕ) → written_of s slots (length out) ≡ Ok n → take n (write_for s slots out).out ≡ bytes_of s slots
unfolding write_for left_in
left_file s slots out n e = let w = answered s slots (length out) n e in rw e (take_at (bytes_of s slots) (drop n out) n w.is)

-- ==== Reading what was written gives the same set and the same plan.
pub read_write : (s : Set) (slots out : List ℕ) (n : ℕ) → written_of s slots (length out) ≡ Ok n
    → ReadsBack s slots (take n (write_for s slots out).out)
unfolding bytes_of
read_write s slots out n e =
    let w = answered s slots (length out) n e in
    let r = file_read_lem s slots w.is_sound w.long (λ j l. all_low slots s.tasks.count w.none_high j) in
    rw (left_file s slots out n e)
    (record { read = r.0; set = r.1; plan = drop_at (head_bytes s) slots (length (head_bytes s)) refl })

-- ==== No file that is written has more bytes than one that is read: 52,868 always do.
pub longest_written : (s : Set) (slots : List ℕ) (room n : ℕ) → written_of s slots room ≡ Ok n → n ≤ 52868
longest_written s slots room n e =
    let w = answered s slots room n e in
    let r = file_read_lem s slots w.is_sound w.long (λ j l. all_low slots s.tasks.count w.none_high j) in
    omega (arith, w.is, longest_file (bytes_of s slots) (ap number_of r.0))

-- ==== Writing what was read gives the same bytes, into every buffer that is long enough; what stands behind them stays.
module _ (file : List ℕ) (bytes : Bytes file) (p : ℕ) (e : outcome_read file ≡ Ok p) (out : List ℕ) (room : length file ≤ length out) where
  abbrev read : Set
  read = view (set_read file)

  answer : written_of read (drop p file) (length out) ≡ Ok (length file)
  answer =
      let t = parts_at file p e in
      answers read (drop p file) (length out) (length file)
      (record {
        is_sound = t.is_sound;
        long = t.long;
        none_high = no_slot_high (drop p file) read.tasks.count t.low;
        is = ap length (sym (file_form file bytes p e).1);
        fits = room;
      })

  pub write_read : write_for read (drop p file) out ≡ write_leaves (Ok (length file)) (file ++ drop (length file) out)
  unfolding write_for left_in
  write_read = let f = file_form file bytes p e in rw (answer, ← f.1)

  -- and from C, with the file's two parts
  pub write_head_read : write_head_for (take p file) (drop p file) out ≡ write_leaves (Ok (length file)) (file ++ drop (length file) out)
  unfolding write_head_for
  write_head_read = rw (parts_at file p e).tasks write_read

-- ---- tasks as C has them
-- bytes that are taken are a head that ends where they do
record HeadTaken (tasks : List ℕ) : Type 0 where
  counts : Counts
  is : (head_of tasks).outcome ≡ Ok (counts, length tasks)
  set : set_taken tasks ≡ set_in (head_of tasks) counts

head_taken : (tasks : List ℕ) → is_some (taken_of tasks) ≡ true → HeadTaken tasks
unfolding taken_of take_head
head_taken tasks e = by (head_of tasks).outcome refl e
  where
    ended : (f : Counts) (at : ℕ) → (head_of tasks).outcome ≡ Ok (f, at) → (b : Bool) → eqb at (length tasks) ≡ b
        → is_some (pick b (Some (set_in (head_of tasks) f)) None) ≡ true → HeadTaken tasks
    ended f at a true q h = let z : at ≡ length tasks = eqb-true at (length tasks) q in record { counts = f; is = rw z at a; set = rw (a, q) }
    ended f at a false q h = clash h refl

    by : (o : Head) → (head_of tasks).outcome ≡ o → is_some (take_head tasks o (head_of tasks).tasks (head_of tasks).patterns) ≡ true → HeadTaken tasks
    by (Ok (f, at)) a h = ended f at a (eqb at (length tasks)) refl h
    by (Err r) a h = clash h refl

-- ==== The tasks that C hands over are the head of their set, byte for byte,
pub tasks_are_head : (tasks : List ℕ) → Bytes tasks → is_some (taken_of tasks) ≡ true → head_bytes (view (set_taken tasks)) ≡ tasks
tasks_are_head tasks bytes e =
    let t = head_taken tasks e in
    let f = head_form tasks bytes t.counts (length tasks) t.is in
    rw t.set (sym (part_whole tasks (head_bytes (view (set_in (head_of tasks) t.counts))) f.1 f.0))

-- so what is written for C is the tasks and, behind them, the plan.
pub write_joins : (tasks plan out : List ℕ) (n : ℕ) → Bytes tasks → is_some (taken_of tasks) ≡ true
    → written_of (view (set_taken tasks)) plan (length out) ≡ Ok n → (write_head_for tasks plan out).out ≡ tasks ++ plan ++ drop n out
unfolding write_head_for write_for left_in bytes_of
write_joins tasks plan out n bytes taken e = rw (e, tasks_are_head tasks bytes taken)
