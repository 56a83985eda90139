-- The writer's answer by its refusals, test by test in the order of the code, and what each leaves.
use mathlib.Core.Path.{◌≡◌, sym, ap, ◌∙◌}
use mathlib.Core.Bool.{true, false, not}
use mathlib.Core.List.{List, ◌++◌}
use Prim.Native.Nat.{ℕ, ◌+◌, ◌*◌, ◌<◌, ◌≤◌}
use native.Mathlib.Omega.{arith}
use native.Mathlib.Nat.{mul-le-mul}
use lib.ListN.{length, length-append, length-take, take, drop}
use lib.Seq.{sets, sets-eq}
use lib.Dec.{eqb, ltb}
use borrow.Author.Tests.{eq-eqb, ne_eqb, lt-ltb, le-ltb, ltb-false, eqb-true, not-false}
use Rattle.std.specs.Prelude.{Option, Some, None, Result, Ok, Err}
use Rattle.vocabulary.proofs.Test.{missed}
use Rattle.vocabulary.specs.First.{first_of}
use Rattle.vocabulary.specs.Least.{some, lowest}
use Rattle.vocabulary.proofs.Least.{some_lt, some_least, none_least}
use Rattle.kinds.specs.declared.Counts.{Counts}
use Rattle.kinds.specs.Tasks.{Set, view}
use Rattle.kinds.specs.Build.{no_tasks, tables_of, lent_set}
use Rattle.kinds.specs.Cycle.{cycle}
use Rattle.kinds.specs.Sound.{sound}
use Rattle.kinds.specs.SoundByTests.{CountsFound, lent_is}
use Rattle.kinds.proofs.SoundFacts.{Sound, sound_facts}
use Rattle.slots.specs.High.{high}
use Rattle.writer.specs.declared.WriteError.{WriteError}
use Rattle.writer.specs.declared.WriteError.TheVariants as writeError
use Rattle.writer.specs.Format.{head_bytes, bytes_of}
use Rattle.writer.specs.Writing.{WriteLeft, rules, written_of, left_in, write_leaves, write_for, written_head, write_head_for}
use Rattle.kinds.specs.declared.TaskSet.{TaskSet}
use Rattle.heads.specs.Tables.{PatternTables, no_pattern_tables}
use Rattle.heads.specs.Heads.{set_of}
use Rattle.reader.specs.Files.{set_taken, whole_read, whole_from}
use Rattle.std.specs.Prelude.{unwrap_or}
use Rattle.reader.proofs.WholeLaws.{whole_none, whole_some}
use Rattle.reader.proofs.ReadLaws.{none_sound}
use Rattle.kinds.specs.declared.SetView.{SetView}
use Rattle.kinds.specs.Build.{set_in}
use Rattle.writer.specs.Wrote.{Wrote, wrote_both, wrote_long}

-- ---- 10
pub bad_set : (s : Set) (slots : List ℕ) (room : ℕ) → sound s ≡ false → Err writeError.BadSet ≡ written_of s slots room
unfolding written_of rules first_of
bad_set s slots room e = rw e

-- ---- 11, 12 and 18
module _ (t : SetView) (slots : List ℕ) (room : ℕ) (c : CountsFound (set_in t) t.counts) where
  abbrev s : Set
  s = set_in t

  abbrev f : Counts
  f = t.counts

  found : Sound s
  found = sound_facts s c.is_sound

  pub few_slots : f.processors * f.ticks ≤ 48000
  few_slots =
      mul-le-mul {n₁ = f.processors} {m₁ = f.ticks} {n₂ = 8} {m₂ = 6000} found.few_processors (omega (arith, c.ticks, found.low_cycle))

  pub other_length : (length slots ≡ f.processors * f.ticks → ⊥) → Err writeError.WrongLength ≡ written_of s slots room
  unfolding written_of rules first_of
  other_length n = rw (c.is_sound, ← c.ticks, ne_eqb (length slots) (f.processors * f.ticks) n)

  module _ (long : length slots ≡ f.processors * f.ticks) where
    pub high_slot_lem : {e : ℕ} → Some e ≡ lowest (high slots f.tasks) (length slots) → Err (writeError.BadSlot e) ≡ written_of s slots room
    unfolding written_of rules first_of
    high_slot_lem {e} found =
        let w = some_least (high slots f.tasks) (length slots) e found in
        rw (
          c.is_sound,
          ← c.ticks,
          eq-eqb (length slots) (f.processors * f.ticks) long,
          some_lt (high slots f.tasks) (length slots) e w.0 w.1,
          ← w.0,
        )

    module _ (none : None ≡ lowest (high slots f.tasks) (length slots)) {h : ℕ} (h_is : h ≡ length (head_bytes s)) where
      abbrev n : ℕ
      n = h + length slots

      file_long : length (bytes_of s slots) ≡ n
      unfolding bytes_of
      file_long = length-append (head_bytes s) slots ∙ ap (λ (x : ℕ). x + length slots) (sym h_is)

      pub too_short : room < n → Err writeError.TooShort ≡ written_of s slots room
      unfolding written_of rules first_of
      too_short l =
          rw (
            c.is_sound,
            ← c.ticks,
            eq-eqb (length slots) (f.processors * f.ticks) long,
            (none_least (high slots f.tasks) (length slots) none).1,
            file_long,
            lt-ltb room n l,
          )

      pub fits : n ≤ room → Ok n ≡ written_of s slots room
      unfolding written_of rules first_of
      fits l =
          rw (
            c.is_sound,
            ← c.ticks,
            eq-eqb (length slots) (f.processors * f.ticks) long,
            (none_least (high slots f.tasks) (length slots) none).1,
            file_long,
            le-ltb room n l,
          )

-- ---- what is left
no_error : {e : WriteError} {n : ℕ} → ◌≡◌ {A = Result ℕ WriteError} (Err e) (Ok n) → ⊥
no_error e = let z : ◌≡◌ {A = ℕ} 0 1 = cc in omega arith

-- what a length that is answered says: the set and the plan are in order, it is the file's length, and there is room for it
pub record LengthTold (s : Set) (slots : List ℕ) (room n : ℕ) : Type 0 where
  pub is_sound : sound s ≡ true
  pub long : length slots ≡ s.processors * cycle s.tasks
  pub none_high : some (high slots s.tasks.count) (length slots) ≡ false
  pub is : length (bytes_of s slots) ≡ n
  pub fits : n ≤ room

pub answered : (s : Set) (slots : List ℕ) (room n : ℕ) → written_of s slots room ≡ Ok n → LengthTold s slots room n
unfolding written_of rules first_of
answered s slots room n e =
    let a = missed (not (sound s)) _ _ _ e no_error in
    let b = missed (not (eqb (length slots) (s.processors * cycle s.tasks))) _ _ _ a.1 no_error in
    let c = missed (some (high slots s.tasks.count) (length slots)) _ _ _ b.1 no_error in
    let d = missed (ltb room (length (bytes_of s slots))) _ _ _ c.1 no_error in
    let z : length (bytes_of s slots) ≡ n = cc d.1 in
    record {
      is_sound = not-false (sound s) a.0;
      long = eqb-true (length slots) (s.processors * cycle s.tasks) (not-false (eqb (length slots) (s.processors * cycle s.tasks)) b.0);
      none_high = c.0;
      is = z;
      fits = omega (arith, ltb-false room (length (bytes_of s slots)) d.0);
    }

-- and where they are, it is answered
pub answers : (s : Set) (slots : List ℕ) (room n : ℕ) → LengthTold s slots room n → written_of s slots room ≡ Ok n
unfolding written_of rules first_of
answers s slots room n a =
    rw (a.is_sound, eq-eqb (length slots) (s.processors * cycle s.tasks) a.long, a.none_high, a.is, le-ltb room n a.fits)

module _ (s : Set) (slots out : List ℕ) {r : Result ℕ WriteError} (e : r ≡ written_of s slots (length out)) where
  -- there is room for the head, and for the slots behind it
  pub head_room : {n : ℕ} → r ≡ Ok n → length (head_bytes s) ≤ length out
  unfolding bytes_of
  head_room {n} q = let w = answered s slots (length out) n (sym e ∙ q) in omega (arith, w.is, w.fits, length-append (head_bytes s) slots)

  pub slots_room : {n p : ℕ} {a : List ℕ} → r ≡ Ok n → Wrote out 0 (head_bytes s) a p → p + length slots ≤ length a
  unfolding bytes_of
  slots_room {n} q u =
      let w = answered s slots (length out) n (sym e ∙ q) in
      omega (arith, w.is, w.fits, length-append (head_bytes s) slots, u.ends, wrote_long u)

  pub all_written : {n p : ℕ} {a b : List ℕ} → r ≡ Ok n → Wrote out 0 (head_bytes s) a p → Wrote a p slots b (p + length slots)
      → write_leaves (Ok n) b ≡ write_for s slots out
  unfolding write_for left_in bytes_of
  all_written {n} {p} {a} {b} q u v =
      let w = answered s slots (length out) n (sym e ∙ q) in
      let z : 0 + length (head_bytes s ++ slots) ≡ n = omega (arith, w.is) in
      let i : b ≡ sets out 0 (head_bytes s ++ slots) = (wrote_both u v).is in
      rw (← e, q, i) (ap (write_leaves (Ok n)) (sets-eq (head_bytes s ++ slots) out 0 (omega (arith, w.is, w.fits)) ∙ rw z))

  -- a refusal leaves the buffer
  pub kept : {d : WriteError} → r ≡ Err d → write_leaves (Err d) out ≡ write_for s slots out
  unfolding write_for left_in
  kept q = rw (← e, q)

-- a file that was written lies within the buffer
pub within : (s : Set) (slots out : List ℕ) {r : Result ℕ WriteError} {left : List ℕ} {n : ℕ} → write_leaves r left ≡ write_for s slots out → r ≡ Ok n
    → n ≤ length out
unfolding write_for
within s slots out {n = n} e q = (answered s slots (length out) n (sym (ap (λ (w : WriteLeft). w.answer) e) ∙ q)).fits

pub left_long : (s : Set) (slots out : List ℕ) {r : Result ℕ WriteError} {left : List ℕ} {n : ℕ} → write_leaves r left ≡ write_for s slots out → r ≡ Ok n
    → length (take n left) ≡ n
unfolding write_for left_in
left_long s slots out {r} {left} {n} e q =
    let t : written_of s slots (length out) ≡ Ok n = sym (ap (λ (w : WriteLeft). w.answer) e) ∙ q in
    let l : left ≡ bytes_of s slots ++ drop n out = ap (λ (w : WriteLeft). w.out) e ∙ rw t in
    let a = answered s slots (length out) n t in
    omega (arith, length-take n left, ap length l, length-append (bytes_of s slots) (drop n out), a.is)

-- ---- a set by value, and a head
module _ (s : Set) {f : Counts} (c : CountsFound s f) (slots out : List ℕ) where
  pub lent_written : write_for (lent_set f (tables_of s.tasks.attributes s.patterns.headings s.patterns.pairs)) slots out ≡ write_for s slots out
  lent_written = ap (λ (z : Set). write_for z slots out) (lent_is s c)

pub not_written : (s : Set) (slots out : List ℕ) → sound s ≡ false → write_leaves (Err writeError.BadSet) out ≡ write_for s slots out
unfolding write_for left_in
not_written s slots out e = rw (← bad_set s slots (length out) e)

module _ (tasks t : List ℕ) (v : PatternTables) (slots : List ℕ) {c : Option Counts} (read : whole_read c t v ≡ whole_from tasks no_pattern_tables) where
  -- bytes that are no head stand for a set that breaks rule 10
  none : c ≡ None → sound (view (set_taken tasks)) ≡ false
  none z = ap (λ (x : Option TaskSet). sound (view (unwrap_or x (no_tasks 0 0)))) (whole_none tasks t v read z) ∙ none_sound

  pub no_head : (room : ℕ) → c ≡ None → Err writeError.BadSet ≡ written_head tasks slots room
  unfolding written_head
  no_head room z = bad_set (view (set_taken tasks)) slots room (none z)

  pub no_head_written : (out : List ℕ) → c ≡ None → write_leaves (Err writeError.BadSet) out ≡ write_head_for tasks slots out
  unfolding write_head_for
  no_head_written out z = not_written (view (set_taken tasks)) slots out (none z)

  module _ {f : Counts} (z : c ≡ Some f) where
    taken : set_of f t v ≡ set_taken tasks
    taken = ap (λ (x : Option TaskSet). unwrap_or x (no_tasks 0 0)) (sym (whole_some tasks t v read z).taken)

    pub head_answered : (room : ℕ) → written_of (view (set_of f t v)) slots room ≡ written_head tasks slots room
    unfolding written_head
    head_answered room = ap (λ (x : TaskSet). written_of (view x) slots room) taken

    pub head_written : (out : List ℕ) → write_for (view (set_of f t v)) slots out ≡ write_head_for tasks slots out
    unfolding write_head_for
    head_written out = ap (λ (x : TaskSet). write_for (view x) slots out) taken
