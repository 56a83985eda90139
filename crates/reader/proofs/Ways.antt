-- The ways through a file after its head, each by the answers of its parts.
use mathlib.Core.Path.{◌≡◌, refl, sym, ap, ◌∙◌}
use mathlib.Core.List.{List}
use Prim.Native.Nat.{ℕ, ◌*◌}
use borrow.Author.Tests.{eq-eqb, ne_eqb}
use lib.ListN.{length}
use Rattle.std.specs.Prelude.{Option, Some, None, Ok, Err}
use Rattle.kinds.specs.declared.TaskSet.{TaskSet}
use Rattle.numbers.specs.declared.Refusal.{Refusal}
use Rattle.heads.specs.Tables.{Outcome, PatternTables, no_attributes, no_pattern_tables}
use Rattle.kinds.specs.declared.Counts.{Counts}
use Rattle.numbers.specs.Results.{err_ok, ok_err, same_ok, same_err}
use Rattle.heads.specs.Heads.{Head, head_read, head_from, set_of}
use Rattle.reader.specs.Files.{slots_from, loaded, on_slots, on_head, read_of, outcome_of, outcome_read, whole_of, take_head, taken_of, on_end, ended_of, whole_read, whole_counts, whole_from}

-- ---- the slots after a head: they are refused; they are not
closed_stopped : (o : Outcome) (at : ℕ) (u : TaskSet) {r : Refusal} → on_end o at ≡ Err r → Err r ≡ on_slots o (Ok (loaded u at))
unfolding on_end on_slots
closed_stopped (Ok q) at u e = absurd (ok_err e)
closed_stopped (Err d) at u e = ap (λ (x : Refusal). Err x) (sym (same_err e))

closed_whole : (o : Outcome) (at : ℕ) (u : TaskSet) {p : ℕ} → on_end o at ≡ Ok p → Ok (loaded u p) ≡ on_slots o (Ok (loaded u at))
unfolding on_end on_slots
closed_whole (Ok q) at u e = ap (λ (x : ℕ). Ok (loaded u x)) (sym (same_ok e))
closed_whole (Err d) at u e = absurd (err_ok e)

-- ---- the whole file: the head is refused; the slots are; neither is
module _ (s : List ℕ) (t : List ℕ) (v : PatternTables) {o : Head} (a : head_read o t v ≡ head_from s no_attributes no_pattern_tables) where
  pub read_refused : {r : Refusal} → o ≡ Err r → Err r ≡ read_of s
  unfolding read_of on_head
  read_refused b = rw (← a, b)

  module _ {f : Counts} {at : ℕ} {q : Outcome} (b : o ≡ Ok (f, at)) (d : q ≡ ended_of s at f) where
    pub read_stopped : {r : Refusal} → q ≡ Err r → Err r ≡ read_of s
    unfolding read_of on_head
    read_stopped e = closed_stopped (slots_from s (f.processors * f.ticks) at f.tasks) at (set_of f t v) (sym d ∙ e) ∙ rw (← a, b)

    pub read_closed : {p : ℕ} {u : TaskSet} → q ≡ Ok p → u ≡ set_of f t v → Ok (loaded u p) ≡ read_of s
    unfolding read_of on_head
    read_closed {p} e g =
        ap (λ (x : TaskSet). Ok (loaded x p)) g ∙ closed_whole (slots_from s (f.processors * f.ticks) at f.tasks) at (set_of f t v) (sym d ∙ e) ∙ rw (← a, b)

-- ---- the head alone: it is refused; bytes are left over; neither
pub taken_refused : (s : List ℕ) (t : List ℕ) (v : PatternTables) {o : Head} {r : Refusal}
    → head_read o t v ≡ head_from s no_attributes no_pattern_tables → o ≡ Err r → None ≡ taken_of s
unfolding taken_of take_head
taken_refused s t v a b = rw (← a, b)

pub taken_closed : (s : List ℕ) (t : List ℕ) (v : PatternTables) {o : Head} {f : Counts} {at : ℕ} {u : TaskSet} {x : Option TaskSet}
    → head_read o t v ≡ head_from s no_attributes no_pattern_tables → o ≡ Ok (f, at) → u ≡ set_of f t v → x ≡ whole_of at (length s) u → x ≡ taken_of s
unfolding taken_of take_head
taken_closed s t v a b g q = q ∙ rw (g, ← a, b)

-- ---- the head alone, in lent tables: it is refused; it ends where the bytes do; it does not
module _ (s t : List ℕ) (u v : PatternTables) {o : Head} (read : head_read o t v ≡ head_from s no_attributes u) where
  pub whole_refused : {r : Refusal} → o ≡ Err r → whole_read None t v ≡ whole_from s u
  unfolding whole_from whole_counts
  whole_refused e = rw (← read, e)

  pub whole_ended : {f : Counts} {at : ℕ} → o ≡ Ok (f, at) → at ≡ length s → whole_read (Some f) t v ≡ whole_from s u
  unfolding whole_from whole_counts
  whole_ended {at = at} e l = rw (← read, e, eq-eqb at (length s) l)

  pub whole_more : {f : Counts} {at : ℕ} → o ≡ Ok (f, at) → (at ≡ length s → ⊥) → whole_read None t v ≡ whole_from s u
  unfolding whole_from whole_counts
  whole_more {at = at} e l = rw (← read, e, ne_eqb at (length s) l)

-- ---- the answer alone
pub ended_stopped : (s : List ℕ) (at : ℕ) (f : Counts) {k : ℕ} {q : Outcome} {r : Refusal}
    → k ≡ f.processors * f.ticks → q ≡ slots_from s k at f.tasks → q ≡ Err r → Err r ≡ ended_of s at f
unfolding on_end
ended_stopped s at f c d e = rw (← c, ← d, e)

pub ended_whole : (s : List ℕ) (at : ℕ) (f : Counts) {k p : ℕ} {q : Outcome}
    → k ≡ f.processors * f.ticks → q ≡ slots_from s k at f.tasks → q ≡ Ok p → Ok at ≡ ended_of s at f
unfolding on_end
ended_whole s at f c d e = rw (← c, ← d, e)

pub answer-refused : (s : List ℕ) (t : List ℕ) (v : PatternTables) {o : Head} {r : Refusal}
    → head_read o t v ≡ head_from s no_attributes no_pattern_tables → o ≡ Err r → Err r ≡ outcome_read s
unfolding read_of on_head
answer-refused s t v a b = rw (← a, b)

ended_is : (o : Outcome) (at : ℕ) (u : TaskSet) → on_end o at ≡ outcome_of (on_slots o (Ok (loaded u at)))
unfolding on_end on_slots
ended_is (Ok q) at u = refl
ended_is (Err r) at u = refl

pub answer-ended : (s : List ℕ) (t : List ℕ) (v : PatternTables) {o : Head} {f : Counts} {at : ℕ} {q : Outcome}
    → head_read o t v ≡ head_from s no_attributes no_pattern_tables → o ≡ Ok (f, at) → q ≡ ended_of s at f → q ≡ outcome_read s
unfolding read_of on_head
answer-ended s t v {f = f} {at = at} a b q = q ∙ ended_is (slots_from s (f.processors * f.ticks) at f.tasks) at (set_of f t v) ∙ rw (← a, b)
