-- What the reader promises of what it lets through: the set keeps rule 10, its entries beyond the counts are 0, and the slots are those of one cycle.
use mathlib.Core.Bool.{Bool, true, false}
use mathlib.Core.Path.{◌≡◌, refl, sym, ap, subst}
use mathlib.Core.List.{List}
use Prim.Native.Nat.{ℕ, zero, suc, ◌+◌, ◌*◌, ◌<◌, ◌≤◌}
use mathlib.Core.Logic.{⊎_elim}
use native.Mathlib.Nat.{mul-pos, eq-or-lt_of_le}
use native.Mathlib.Omega.{arith}
use borrow.Author.Tests.{leb-false, ltb-false, eq-eqb, ne_eqb}
use lib.Dec.{leb, ltb, eqb}
use lib.ListN.{length, get_or}
use Rattle.std.specs.Prelude.{Some, None, is_some, unwrap_or, Ok, Err}
use Rattle.vocabulary.specs.Test.{pick}
use Rattle.vocabulary.proofs.Test.{missed, both, clash}
use Rattle.slots.specs.High.{high}
use Rattle.kinds.specs.declared.TaskSet.{TaskSet}
use Rattle.kinds.specs.Build.{no_tasks}
use Rattle.kinds.specs.Limits.{holds, task_counts}
use Rattle.kinds.specs.Editions.{editions}
use Rattle.kinds.specs.Tasks.{view}
use Rattle.kinds.specs.Cycle.{cycle, jobs}
use Rattle.kinds.specs.Sound.{opening_fits, sound}
use Rattle.kinds.specs.RangeLaws.{holds_at, cycle_pos}
use Rattle.kinds.proofs.Blank.{Blank, blank_none}
use Rattle.kinds.specs.declared.Counts.{Counts}
use Rattle.heads.specs.Tables.{Outcome, PatternTables}
use Rattle.heads.specs.Heads.{Head, HeadRead, head_read, set_of}
use Rattle.reader.specs.Files.{slots_from, Answer, loaded, on_slots, on_head, read_of, outcome_of, outcome_read, set_or_none, set_read, take_head, taken_of, set_taken}
use Rattle.numbers.specs.Results.{err_ok, same_ok}
use Rattle.heads.proofs.HeadLaws.{head_of, set_in, HeadSound, head_sound}

-- ---- the slots
pub record SlotsRead (s : List ℕ) (k at n : ℕ) : Type 0 where
  pub long : length s ≡ at + k
  pub low : (j : ℕ) → at ≤ j → j < length s → get_or s j 0 ≤ n

no_more : (s : List ℕ) (at n q : ℕ) → at ≤ length s → slots_from s 0 at n ≡ Ok q → SlotsRead s 0 at n
unfolding slots_from
no_more s at n q l e =
    let h = ltb-false at (length s) (missed (ltb at (length s)) _ _ _ e err_ok).0 in
    record { long = omega arith; low = λ j a b. absurd (omega arith) }

one_more : (s : List ℕ) (k at n q : ℕ) → slots_from s (suc k) at n ≡ Ok q → (at < length s) × (get_or s at 0 ≤ n) × (slots_from s k (at + 1) n ≡ Ok q)
unfolding slots_from high
one_more s k at n q e =
    let a = missed (leb (length s) at) _ _ _ e err_ok in
    let b = missed (high s n at) _ _ _ a.1 err_ok in
    (leb-false (length s) at a.0, ltb-false n (get_or s at 0) b.0, b.1)

slots_read : (s : List ℕ) (k at n q : ℕ) → at ≤ length s → slots_from s k at n ≡ Ok q → SlotsRead s k at n
slots_read s zero at n q l e = no_more s at n q l e
slots_read s (suc k) at n q l e =
    let w = one_more s k at n q e in
    let r = slots_read s k (at + 1) n q (omega arith) w.2 in
    record {
      long = omega (arith, r.long);
      low = λ j a b. ⊎_elim (λ z. subst (λ (i : ℕ). get_or s i 0 ≤ n) z w.1) (λ h. r.low j (omega arith) b) (eq-or-lt_of_le a);
    }

-- ---- the whole file
-- a file that is let through: its head was read, and its slots were
record ReadWent (s : List ℕ) (p : ℕ) : Type 0 where
  shape : Counts
  headed : (head_of s).outcome ≡ Ok (shape, p)
  set_is : (set_read s) ≡ set_in (head_of s) shape
  last : ℕ
  slots : slots_from s (shape.processors * shape.ticks) p shape.tasks ≡ Ok last

module _ (s : List ℕ) (p : ℕ) where
  after_head : (f : Counts) (at : ℕ) → (head_of s).outcome ≡ Ok (f, at) → (o : Outcome) → slots_from s (f.processors * f.ticks) at f.tasks ≡ o
      → outcome_of (on_slots o (Ok (loaded (set_in (head_of s) f) at))) ≡ Ok p → ReadWent s p
  unfolding read_of on_head on_slots
  after_head f at a (Ok q) b e =
      let z : at ≡ p = same_ok e in
      record {
        shape = f;
        headed = rw z at a;
        set_is = rw (a, b);
        last = q;
        slots = rw z at b;
      }
  after_head f at a (Err r) b e = absurd (err_ok e)

  went : outcome_read s ≡ Ok p → ReadWent s p
  unfolding read_of on_head
  went e = by (head_of s).outcome refl e
    where
      by : (o : Head) → (head_of s).outcome ≡ o → outcome_of (on_head s o (head_of s).tasks (head_of s).patterns) ≡ Ok p → ReadWent s p
      by (Ok (f, at)) a e = after_head f at a (slots_from s (f.processors * f.ticks) at f.tasks) refl e
      by (Err r) a e = absurd (err_ok e)

-- what is read is the set with that place
pub read_is : (s : List ℕ) (p : ℕ) → outcome_read s ≡ Ok p → read_of s ≡ Ok (loaded (set_read s) p)
read_is s p e = by (read_of s) e
  where
    by : (a : Answer) → outcome_of a ≡ Ok p → a ≡ Ok (loaded (set_or_none a) p)
    by (Ok l) e = ap (λ (x : ℕ). Ok (loaded l.set x)) (same_ok e)
    by (Err r) e = absurd (err_ok e)

-- some slot is read
some_slots : (t : TaskSet) (h : ℕ) → sound (view t) ≡ true → h ≡ cycle (view t).tasks → 0 < t.processors * h
unfolding sound opening_fits
some_slots t h e c =
    let o = (both {a = opening_fits t.edition t.tasks t.processors} e).0 in
    let m = (both {a = holds task_counts t.tasks} (both {a = holds editions t.edition} o).1).1 in
    mul-pos (holds_at 1 9 t.processors m).0 (omega (arith, cycle_pos (view t).tasks))

pub read_sound : (s : List ℕ) (p : ℕ) → outcome_read s ≡ Ok p → sound (view (set_read s)) ≡ true
read_sound s p e = let w = went s p e in rw w.set_is (head_sound s w.shape p w.headed).is_sound

slots_of_lem : (s : List ℕ) (p : ℕ) → outcome_read s ≡ Ok p → SlotsRead s ((set_read s).processors * cycle (view (set_read s)).tasks) p (set_read s).tasks
slots_of_lem s p e =
    let w = went s p e in
    let f : Counts = w.shape in
    let h = head_sound s f p w.headed in
    let set : TaskSet = set_in (head_of s) f in
    let g : SlotsRead s (f.processors * f.ticks) p f.tasks = from_some s (f.processors * f.ticks) p f.tasks w.last (some_slots set f.ticks h.is_sound h.ticks) w.slots in
    let r : SlotsRead s (set.processors * cycle (view set).tasks) p set.tasks = rw (← h.ticks) g in
    subst (λ (t : TaskSet). SlotsRead s (t.processors * cycle (view t).tasks) p t.tasks) (sym w.set_is) r
  where
    from_some : (s : List ℕ) (k at n q : ℕ) → 0 < k → slots_from s k at n ≡ Ok q → SlotsRead s k at n
    from_some s zero at n q l e = absurd (omega arith)
    from_some s (suc k) at n q l e = let w = one_more s k at n q e in slots_read s (suc k) at n q (omega arith) e

-- m·H slots, and the end
pub read_long : (s : List ℕ) (p : ℕ) → outcome_read s ≡ Ok p → length s ≡ p + (set_read s).processors * cycle (view (set_read s)).tasks
read_long s p e = (slots_of_lem s p e).long

-- no slot is above the task count
pub read_slots : (s : List ℕ) (p : ℕ) → outcome_read s ≡ Ok p → (j : ℕ) → p ≤ j → j < length s → get_or s j 0 ≤ (set_read s).tasks
read_slots s p e = (slots_of_lem s p e).low

-- Rule R4.12: entries beyond the counts are 0, whatever the file
pub read_blank : (s : List ℕ) → Blank (set_read s)
unfolding read_of on_head on_slots
read_blank s = by (head_of s).outcome refl
  where
    slots_by : (f : Counts) (at : ℕ) → (head_of s).outcome ≡ Ok (f, at) → (o : Outcome) → Blank (set_or_none (on_slots o (Ok (loaded (set_in (head_of s) f) at))))
    slots_by f at a (Ok q) = (head_sound s f at a).blank
    slots_by f at a (Err r) = blank_none 0 0

    by : (o : Head) → (head_of s).outcome ≡ o → Blank (set_or_none (on_head s o (head_of s).tasks (head_of s).patterns))
    by (Ok (f, at)) a = slots_by f at a (slots_from s (f.processors * f.ticks) at f.tasks)
    by (Err r) a = blank_none 0 0

-- ---- the head alone
pub taken_sound : (s : List ℕ) → is_some (taken_of s) ≡ true → sound (view (set_taken s)) ≡ true
unfolding taken_of take_head
taken_sound s e = by (head_of s).outcome refl e
  where
    length_by : (f : Counts) (at : ℕ) → (head_of s).outcome ≡ Ok (f, at) → (b : Bool) → is_some (pick b (Some (set_in (head_of s) f)) None) ≡ true
        → sound (view (unwrap_or (pick b (Some (set_in (head_of s) f)) None) (no_tasks 0 0))) ≡ true
    length_by f at a true e = (head_sound s f at a).is_sound
    length_by f at a false e = clash e refl

    by : (o : Head) → (head_of s).outcome ≡ o → is_some (take_head s o (head_of s).tasks (head_of s).patterns) ≡ true
        → sound (view (unwrap_or (take_head s o (head_of s).tasks (head_of s).patterns) (no_tasks 0 0))) ≡ true
    by (Ok (f, at)) a e = length_by f at a (eqb at (length s)) e
    by (Err r) a e = clash e refl

-- bytes that are not taken give the empty set, which breaks rule 10
pub none_sound : sound (view (no_tasks 0 0)) ≡ false
unfolding sound opening_fits holds
none_sound = refl

pub not_taken_lem : (s : List ℕ) → is_some (taken_of s) ≡ false → taken_of s ≡ None
unfolding taken_of take_head
not_taken_lem s e = by (head_of s).outcome e
  where
    length_by : (f : Counts) (b : Bool) → is_some (pick b (Some (set_in (head_of s) f)) None) ≡ false
        → pick b (Some (set_in (head_of s) f)) None ≡ None
    length_by f true e = clash refl e
    length_by f false e = refl

    by : (o : Head) → is_some (take_head s o (head_of s).tasks (head_of s).patterns) ≡ false → take_head s o (head_of s).tasks (head_of s).patterns ≡ None
    by (Ok (f, at)) e = length_by f (eqb at (length s)) e
    by (Err r) e = refl

pub taken_blank : (s : List ℕ) → Blank (set_taken s)
unfolding taken_of take_head
taken_blank s = by (head_of s).outcome refl
  where
    length_by : (f : Counts) (at : ℕ) → (head_of s).outcome ≡ Ok (f, at) → (b : Bool) → Blank (unwrap_or (pick b (Some (set_in (head_of s) f)) None) (no_tasks 0 0))
    length_by f at a true = (head_sound s f at a).blank
    length_by f at a false = blank_none 0 0

    by : (o : Head) → (head_of s).outcome ≡ o → Blank (unwrap_or (take_head s o (head_of s).tasks (head_of s).patterns) (no_tasks 0 0))
    by (Ok (f, at)) a = length_by f at a (eqb at (length s))
    by (Err r) a = blank_none 0 0

-- ---- for a caller with tables of its own: a head that ends where the bytes do, and one that does not
pub record WholeHead (s : List ℕ) (f : Counts) (t : List ℕ) (v : PatternTables) : Type 0 where
  pub taken : taken_of s ≡ Some (set_of f t v)
  pub is_sound : sound (view (set_of f t v)) ≡ true
  pub ticks : f.ticks ≡ cycle (view (set_of f t v)).tasks
  pub jobs : f.jobs ≡ jobs (view (set_of f t v)).tasks

module _ (s : List ℕ) (t : List ℕ) (v : PatternTables) {o : Head} {f : Counts} {at : ℕ} (read : head_read o t v ≡ head_of s) (here : o ≡ Ok (f, at)) where
  headed : head_read (Ok (f, at)) t v ≡ head_of s
  headed = rw here at read

  pub whole_head : at ≡ length s → WholeHead s f t v
  unfolding taken_of take_head
  whole_head e =
      let h : HeadSound (head_read (Ok (f, at)) t v) f = subst (λ (r : HeadRead). HeadSound r f) (sym headed) (head_sound s f at (ap (λ (r : HeadRead). r.outcome) (sym headed))) in
      record { taken = rw (← headed, eq-eqb at (length s) e); is_sound = h.is_sound; ticks = h.ticks; jobs = h.jobs }

  pub left_over : (at ≡ length s → ⊥) → taken_of s ≡ None
  unfolding taken_of take_head
  left_over n = rw (← headed, ne_eqb at (length s) n)
