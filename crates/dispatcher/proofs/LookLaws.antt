-- The ways out of a look, and what is written by it.
use mathlib.Core.Path.{◌≡◌, refl, sym, ap, ◌∙◌}
use mathlib.Core.Bool.{Bool, true, false, ◌&&◌, ◌||◌, not}
use mathlib.Core.List.{List, []}
use Prim.Native.Nat.{ℕ, ◌+◌, ◌-◌, ◌*◌, ◌<◌, ◌≤◌}
use native.Mathlib.Nat.{mul-le-mul, mul_comm, le_refl, le_of_dvd, lt_of_lt_of_le}
use native.Mathlib.Omega.{arith}
use lib.Dec.{eqb, ltb, leb}
use lib.ListN.{get_or, length, take, drop}
use Rattle.vocabulary.proofs.Prefix.{part_length, part_entry}
use borrow.Author.Tests.{le-leb, lt-leb, leb-false, eq-eqb, ne_eqb, eqb-true}
use Rattle.std.specs.Prelude.{Option, Some, None, is_some, Ok, Err, is_ok}
use Rattle.vocabulary.specs.Test.{pick}
use Rattle.vocabulary.proofs.Test.{clash, both}
use Rattle.vocabulary.proofs.Least.{least_same, some_same}
use Rattle.vocabulary.specs.First.{first_of, from}
use Rattle.vocabulary.specs.Table.{table}
use Rattle.vocabulary.proofs.Table.{get_or_table, is_table}
use Rattle.kinds.specs.Tasks.{Set, tasks_of, view}
use Rattle.kinds.specs.Cycle.{cycle}
use Rattle.kinds.specs.Sound.{sound}
use Rattle.kinds.proofs.SoundFacts.{Sound, sound_facts}
use Rattle.kinds.specs.SoundByTests.{CountsFound}
use Rattle.kinds.specs.declared.TaskSet.{TaskSet}
use Rattle.kinds.specs.declared.Counts.{Counts}
use Rattle.heads.specs.Tables.{PatternTables, no_pattern_tables}
use Rattle.heads.specs.Heads.{set_of}
use Rattle.reader.specs.Files.{taken_of, whole_read, whole_from}
use Rattle.reader.proofs.ReadLaws.{taken_sound}
use Rattle.reader.proofs.WholeLaws.{whole_none, whole_some, whole_found}
use Rattle.judge.specs.declared.Verdict.{Verdict}
use Rattle.judge.specs.declared.Verdict.TheVariants as verdict
use Rattle.judge.specs.Judgement.{rules, verdict_of}
use Rattle.judge.specs.Heads.{on_taking, judged_of}
use Rattle.dispatcher.specs.declared.State.{State}
use Rattle.dispatcher.specs.declared.Started.{Started}
use Rattle.dispatcher.specs.declared.StepError.{StepError}
use Rattle.dispatcher.specs.declared.StepError.TheVariants as error
use Rattle.dispatcher.specs.declared.Shown.{Shown}
use Rattle.dispatcher.specs.Answers.{Answer}
use Rattle.dispatcher.specs.Steps.{OneTick, done_of, byte_of, row_of, ran_of, after_of, step_of}
use Rattle.dispatcher.specs.Refusals.{first_state, on_verdict, started_of, impossible, overreports, high_slot, is_high, high_place, step_rules, answer_by, if_shown, row_at, tick_of, lengths_fit, answer_of, stepped, stepped_of, left_of}
use Rattle.dispatcher.specs.Outcome.{StepOutcome, written_of, written_is}
use Rattle.dispatcher.specs.Bytes.{state_of, unclear}
use Rattle.dispatcher.specs.ForC.{set_of_taken, start_leaves, start_rules, start_verdict, first_bytes, start_for, step_leaves, lengths_for_c, impossible_for_c, tick_in, answer_in, step_for}
use Rattle.dispatcher.proofs.StepFacts.{shown_kept, lengths_right}
use Rattle.dispatcher.specs.Looks.{Look, eight, shown_by, look_by, look_from, look_of, look_in, look_for, part_of, tick_on, tick_for, Steppable, look_in_bytes}
use Rattle.dispatcher.proofs.RowLaws.{table_same, length_row}

-- ---- a part of a plan
pub part_none : (xs : List ℕ) (at m : ℕ) → length xs < at + m → part_of xs at m ≡ []
unfolding part_of
part_none xs at m h = rw (lt-leb _ _ h)

pub part_all : (xs : List ℕ) (at m : ℕ) → at + m ≤ length xs → take (at + m - at) (drop at xs) ≡ part_of xs at m
unfolding part_of
part_all xs at m h = let e : at + m - at ≡ m = omega arith in rw (e, le-leb _ _ h)

module _ (xs : List ℕ) (at m : ℕ) (within : at + m ≤ length xs) where
  part_is : part_of xs at m ≡ take m (drop at xs)
  unfolding part_of
  part_is = rw (le-leb _ _ within)

  pub part_long : {row : List ℕ} → row ≡ part_of xs at m → length row ≡ m
  part_long e = ap length (e ∙ part_is) ∙ part_length xs at m within

  pub part_at : {row : List ℕ} → row ≡ part_of xs at m → (q : ℕ) → q < m → get_or row q 0 ≡ get_or xs (at + q) 0
  part_at e q l = ap (λ (r : List ℕ). get_or r q 0) (e ∙ part_is) ∙ part_entry 0 xs at m q l

-- ---- the chain's ways out
module _ (right fits bad : Bool) (k : OneTick) where
  pub look_10 : right ≡ false → Err error.BadSet ≡ look_from 10 right fits bad k
  unfolding look_from look_by step_rules from first_of
  look_10 e = rw e

  pub look_11 : fits ≡ false → Err error.WrongLength ≡ look_from 11 right fits bad k
  unfolding look_from look_by step_rules from first_of
  look_11 e = rw e

  pub look_30 : bad ≡ true → Err error.BadState ≡ look_from 30 right fits bad k
  unfolding look_from look_by step_rules from first_of
  look_30 e = rw e

  pub look_31 : bad ≡ false → overreports k.tasks k.report ≡ true → Err error.BadReport ≡ look_from 30 right fits bad k
  unfolding look_from look_by step_rules from first_of
  look_31 d e = rw (d, e)

  pub past_10 : right ≡ true → look_from 11 right fits bad k ≡ look_from 10 right fits bad k
  unfolding look_from step_rules from first_of
  past_10 e = rw e

  pub past_11 : fits ≡ true → look_from 30 right fits bad k ≡ look_from 11 right fits bad k
  unfolding look_from step_rules from first_of
  past_11 e = rw e

  -- from rule 30 on, where 30 and 31 are kept
  shown_30 : bad ≡ false → overreports k.tasks k.report ≡ false → is_high k ≡ false → look_from 30 right fits bad k ≡ Ok (shown_by k)
  unfolding look_from look_by step_rules from first_of
  shown_30 d e h = rw (d, e, h)

  slot_30 : bad ≡ false → overreports k.tasks k.report ≡ false → is_high k ≡ true → look_from 30 right fits bad k ≡ Err (error.BadSlot (high_place k))
  unfolding look_from look_by step_rules from first_of
  slot_30 d e h = rw (d, e, h)

  shown_12 : is_high k ≡ false → look_from 12 right fits bad k ≡ Ok (shown_by k)
  unfolding look_from look_by step_rules from first_of
  shown_12 h = rw h

  slot_12 : is_high k ≡ true → look_from 12 right fits bad k ≡ Err (error.BadSlot (high_place k))
  unfolding look_from look_by step_rules from first_of
  slot_12 h = rw h

-- ---- a row that is a part of the plan
module _ (f : Counts) (xs : List ℕ) (g g' : ℕ → ℕ) (at : ℕ) (s : State) (report : ℕ) (same : (q : ℕ) → q < f.processors → g q ≡ g' q) where
  abbrev alone : OneTick
  alone = tick_on f xs g at s report

  abbrev placed : OneTick
  placed = tick_on f xs g' at s report

  rows_same : row_of alone ≡ row_of placed
  unfolding row_of done_of
  rows_same =
      table_same (λ q. byte_of (tasks_of f.tasks xs) s (done_of alone) (g q)) (λ q. byte_of (tasks_of f.tasks xs) s (done_of alone) (g' q)) f.processors
      (λ q l. ap (byte_of (tasks_of f.tasks xs) s (done_of alone)) (same q l))

  step_same : step_of alone ≡ step_of placed
  unfolding step_of done_of
  step_same = ap (λ (x : List ℕ). after_of f.ticks s (done_of alone) (ran_of x f.tasks)) rows_same

  high_same : (q : ℕ) → q < f.processors → high_slot f.tasks g q ≡ high_slot f.tasks g' q
  unfolding high_slot
  high_same q l = ap (ltb f.tasks) (same q l)

  is_high_same : is_high alone ≡ is_high placed
  unfolding is_high
  is_high_same = some_same (high_slot f.tasks g) (high_slot f.tasks g') f.processors high_same

  place_same : high_place alone ≡ high_place placed
  unfolding high_place
  place_same = ap (λ (x : ℕ). at + x) (least_same (high_slot f.tasks g) (high_slot f.tasks g') f.processors high_same)

  shown_same : shown_by alone ≡ shown_by placed
  shown_same = rw (step_same, rows_same)

  -- the look from rule 12 on is the look from rule 30 on, where 30 and 31 are kept
  pub row_placed : {bad : Bool} → bad ≡ false → overreports (tasks_of f.tasks xs) report ≡ false
      → look_from 12 true true false alone ≡ look_from 30 true true bad placed
  row_placed {bad} possible reported = by (is_high alone) refl
    where
      by : (b : Bool) → is_high alone ≡ b → look_from 12 true true false alone ≡ look_from 30 true true bad placed
      by true h =
          slot_12 true true false alone h
          ∙ ap (λ (x : ℕ). Err (error.BadSlot x)) place_same
          ∙ sym (slot_30 true true bad placed possible reported (sym is_high_same ∙ h))
      by false h =
          shown_12 true true false alone h
          ∙ ap (λ (w : Shown). Ok w) shown_same
          ∙ sym (shown_30 true true bad placed possible reported (sym is_high_same ∙ h))

-- ---- the tick's slots are in the plan
pub record InPlan (f : Counts) (t at m : ℕ) (slots : List ℕ) : Type 0 where
  pub tick : t < f.ticks
  pub row : at + m ≤ length slots
  pub short : length slots ≤ 48000

either_false : (a b : Bool) → (a || b) ≡ false → a ≡ false
either_false true b e = e
either_false false b e = refl

pub in_plan : {f : Counts} {xs slots : List ℕ} {m w : ℕ} (s : State) → Steppable f xs → length slots ≡ f.processors * f.ticks
    → impossible (tasks_of f.tasks []) f.ticks s ≡ false
    → m ≡ f.processors → w ≡ s.tick
    → InPlan f s.tick (w * m) m slots
unfolding impossible
in_plan {f} {slots = slots} {m} {w} s t long possible em ew =
    let l : s.tick < f.ticks = leb-false f.ticks s.tick (either_false (leb f.ticks s.tick) _ possible) in
    let z : (s.tick + 1) * f.processors ≤ f.ticks * f.processors = mul-le-mul (let k : s.tick + 1 ≤ f.ticks = omega arith in k) (le_refl f.processors) in
    let y : f.processors * f.ticks ≤ 8 * 6000 = mul-le-mul t.narrow t.short in
    let x : w * m ≡ s.tick * f.processors = rw (em, ew) in
    record { tick = l; row = omega (arith, long, em, mul_comm f.processors f.ticks); short = omega (arith, long) }

-- the row that the code lends is that of the tick
module _ (f : Counts) (xs slots : List ℕ) {m w : ℕ} (s : State) (report : ℕ) {row : List ℕ} (within : w * m + m ≤ length slots)
    (em : m ≡ f.processors) (ew : w ≡ s.tick) (part : row ≡ part_of slots (w * m) m) where
  place_is : w * m ≡ s.tick * f.processors
  place_is = rw (em, ew)

  lent : (q : ℕ) → q < f.processors → get_or row q 0 ≡ row_at slots (s.tick * f.processors) q
  lent q l = part_at slots (w * m) m within part q (rw em l) ∙ ap (λ (x : ℕ). get_or slots (x + q) 0) place_is

  pub lent_long : length row ≡ f.processors
  lent_long = part_long slots (w * m) m within part ∙ em

  pub lent_look : {l : Look} {bad : Bool} → l ≡ look_from 12 true true false (tick_on f xs (λ q. get_or row q 0) (w * m) s report)
      → bad ≡ false
      → overreports (tasks_of f.tasks xs) report ≡ false
      → l ≡ look_from 30 true true bad (tick_for f xs slots s report)
  lent_look e possible reported =
      let at : ℕ = s.tick * f.processors in
      e
      ∙ ap (λ (x : ℕ). look_from 12 true true false (tick_on f xs (λ q. get_or row q 0) x s report)) place_is
      ∙ row_placed f xs (λ q. get_or row q 0) (row_at slots at) at s report lent possible reported

-- ---- lengths
pub low_product : (p t : ℕ) {m h : ℕ} → p ≤ 8 → t ≤ 6000 → m ≡ p → h ≡ t → m * h ≤ 48000
low_product p t a b d e = rw (d, e) (mul-le-mul a b)

module _ (p t slots out : ℕ) {m h : ℕ} (em : m ≡ p) (eh : h ≡ t) where
  product : m * h ≡ p * t
  product = rw (em, eh)

  pub other_plan : (slots ≡ m * h → ⊥) → false ≡ lengths_fit p t slots out
  unfolding lengths_fit
  other_plan n = rw (ne_eqb slots (p * t) (λ q. n (q ∙ sym product)))

  pub last_length : slots ≡ m * h → eqb out m ≡ lengths_fit p t slots out
  unfolding lengths_fit
  last_length l = rw (eq-eqb slots (p * t) (l ∙ product), em)

-- ---- the bytes of a state
module _ (f : Counts) (xs slots : List ℕ) (report : ℕ) (b : List ℕ) (room : ℕ) where
  abbrev at_bytes : OneTick
  at_bytes = tick_for f xs slots (state_of b) report

  pub wrong_lengths : lengths_fit f.processors f.ticks (length slots) room ≡ false → Err error.WrongLength ≡ look_in_bytes f xs slots report b room
  unfolding look_in_bytes
  wrong_lengths e = look_11 true _ _ at_bytes (rw e)

  module _ (fit : lengths_fit f.processors f.ticks (length slots) room ≡ true) where
    pub wrong_bytes : (length b ≡ 21 → ⊥) → Err error.WrongLength ≡ look_in_bytes f xs slots report b room
    unfolding look_in_bytes
    wrong_bytes n = look_11 true _ _ at_bytes (rw (fit, ne_eqb (length b) 21 n))

    module _ (bytes : length b ≡ 21) where
      right : (lengths_fit f.processors f.ticks (length slots) room && eqb (length b) 21) ≡ true
      right = rw (fit, eq-eqb (length b) 21 bytes)

      pub unclear_bytes : unclear b ≡ true → Err error.BadState ≡ look_in_bytes f xs slots report b room
      unfolding look_in_bytes
      unclear_bytes e = look_30 true _ _ at_bytes (rw e) ∙ past_11 true _ _ at_bytes right

      pub clear_bytes : {s : State} {l : Look} → unclear b ≡ false → s ≡ state_of b
          → l ≡ look_from 30 true true (impossible (tasks_of f.tasks []) f.ticks s) (tick_for f xs slots s report)
          → l ≡ look_in_bytes f xs slots report b room
      unfolding look_in_bytes impossible
      clear_bytes e i h = h ∙ rw (i, right, e) (past_11 true true _ at_bytes refl)

-- ---- the look of a set's numbers and tables is the look of the set
module _ (s : Set) {f : Counts} (found : CountsFound s f) where
  by_counts : {A : Type 0} (F : ℕ → ℕ → ℕ → A) → F f.tasks f.processors f.ticks ≡ F s.tasks.count s.processors (cycle s.tasks)
  by_counts F = rw (found.tasks, found.processors, found.ticks)

  pub timed_of : Steppable f s.tasks.attributes
  timed_of =
      let facts : Sound s = sound_facts s found.is_sound in
      record {
        few = rw found.tasks facts.few_tasks;
        short = rw found.ticks facts.low_cycle;
        narrow = rw found.processors facts.few_processors;
        some_period = λ i l. facts.some_period i (rw found.tasks at l);
        low_offset = λ i l.
            let k : i < s.tasks.count = rw found.tasks at l in
            rw found.ticks (lt_of_lt_of_le (facts.offset_low i k) (le_of_dvd facts.some_cycle (facts.divides i k)));
      }

  module _ (slots : List ℕ) (state : State) (report room : ℕ) where
    -- the tick of tasks, processors and a cycle that are to be the set's
    abbrev tick_with : ℕ → ℕ → ℕ → OneTick
    tick_with n m h =
        record {
          tasks = tasks_of n s.tasks.attributes;
          processors = m;
          cycle = h;
          row = row_at slots (state.tick * m);
          place = state.tick * m;
          state = state;
          report = report;
        }

    lengths_same : lengths_fit f.processors f.ticks (length slots) room ≡ lengths_fit s.processors (cycle s.tasks) (length slots) room
    lengths_same = by_counts (λ n m h. lengths_fit m h (length slots) room)

    pub set_11 : lengths_fit f.processors f.ticks (length slots) room ≡ false → Err error.WrongLength ≡ look_of s slots state report room
    unfolding look_of
    set_11 d =
        look_11 (sound s) _ _ (tick_of s slots state report) (sym lengths_same ∙ d) ∙ past_10 (sound s) _ _ (tick_of s slots state report) found.is_sound

    pub set_look : {l : Look} → lengths_fit f.processors f.ticks (length slots) room ≡ true
        → l ≡ look_from 30 true true (impossible (tasks_of f.tasks []) f.ticks state) (tick_for f s.tasks.attributes slots state report)
        → l ≡ look_of s slots state report room
    unfolding look_of impossible
    set_look d g =
        let bad : Bool = impossible s.tasks (cycle s.tasks) state in
        let fit : lengths_fit s.processors (cycle s.tasks) (length slots) room ≡ true = sym lengths_same ∙ d in
        g
        ∙ by_counts (λ n m h. look_from 30 true true (impossible (tasks_of n []) h state) (tick_with n m h))
        ∙ past_11 true true bad (tick_of s slots state report) refl
        ∙ past_10 true true bad (tick_of s slots state report) refl
        ∙ rw (found.is_sound, fit)

  module _ (slots : List ℕ) (report : ℕ) (b : List ℕ) (room : ℕ) where
    pub bytes_look : {l : Look} → l ≡ look_in_bytes f s.tasks.attributes slots report b room
        → l ≡ look_from 10 true (lengths_for_c s slots b room) (impossible_for_c s b) (tick_of s slots (state_of b) report)
    unfolding look_in_bytes impossible
    bytes_look g =
        g
        ∙ by_counts (λ n m h.
        look_from 11 true (lengths_fit m h (length slots) room && eqb (length b) 21)
        (unclear b || impossible (tasks_of n s.tasks.attributes) h (state_of b))
        (tick_with slots (state_of b) report room n m h))
        ∙ past_10 true (lengths_for_c s slots b room) (impossible_for_c s b) (tick_of s slots (state_of b) report) refl

pub set_10 : (s : Set) (slots : List ℕ) (state : State) (report room : ℕ) → sound s ≡ false → Err error.BadSet ≡ look_of s slots state report room
unfolding look_of
set_10 s slots state report room e = look_10 (sound s) _ _ (tick_of s slots state report) e

-- ---- the head
module _ (tasks t : List ℕ) (v : PatternTables) {c : Option Counts} (read : whole_read c t v ≡ whole_from tasks no_pattern_tables) where
  module _ (slots : List ℕ) (report : ℕ) (b : List ℕ) (room : ℕ) where
    pub no_head : c ≡ None → Err error.BadSet ≡ look_for tasks slots report b room
    unfolding look_for look_in
    no_head z =
        look_10 (is_some (taken_of tasks)) _ _ (tick_in (taken_of tasks) slots report b) (ap (λ (x : Option TaskSet). is_some x) (whole_none tasks t v read z))

  module _ {f : Counts} (z : c ≡ Some f) where
    pub head_timed : Steppable f t
    head_timed = timed_of (view (set_of f t v)) (whole_found tasks t v read z)

    pub head_look : (slots : List ℕ) (report : ℕ) (b : List ℕ) (room : ℕ) {l : Look} → l ≡ look_in_bytes f t slots report b room
        → l ≡ look_for tasks slots report b room
    unfolding look_for look_in
    head_look slots report b room g =
        bytes_look (view (set_of f t v)) (whole_found tasks t v read z) slots report b room g
        ∙ ap (λ (x : Option TaskSet). look_in x slots report b room) (sym (whole_some tasks t v read z).taken)

-- ---- what a step leaves
-- a row that fits eight bytes comes out of them again
row_out : (bytes : List ℕ) (m : ℕ) → length bytes ≡ m → m ≤ 8 → table (λ q. get_or (eight bytes) q 0) m ≡ bytes
unfolding eight
row_out bytes m e l =
    table_same (λ q. get_or (table (λ i. get_or bytes i 0) 8) q 0) (λ q. get_or bytes q 0) m (λ q h. get_or_table (λ i. get_or bytes i 0) 8 q 0 (omega arith))
    ∙ sym (is_table (λ q. get_or bytes q 0) m 0 bytes e (λ i h. refl))

-- a look is that of an answer on a tick
module _ (a : Answer) (k : OneTick) where
  took : {w : Shown} → Ok w ≡ look_by a k → (a ≡ Ok tt) × (w ≡ shown_by k)
  unfolding look_by
  took e = by a e
    where
      by : (b : Answer) {w : Shown} → Ok w ≡ look_by b k → (b ≡ Ok tt) × (w ≡ shown_by k)
      by (Ok taken) e = (refl, cc e)
      by (Err r) e = clash refl (ap is_ok e)

  turned : {r : StepError} → Err r ≡ look_by a k → a ≡ Err r
  unfolding look_by
  turned e = by a e
    where
      by : (b : Answer) {r : StepError} → Err r ≡ look_by b k → b ≡ Err r
      by (Ok taken) e = clash refl (sym (ap is_ok e))
      by (Err x) {r} e = let z : x ≡ r = cc e in ap (λ (y : StepError). Err y) z

-- ---- a step by value
module _ (s : Set) (slots : List ℕ) (state : State) (report : ℕ) (out : List ℕ) where
  abbrev here : OneTick
  here = tick_of s slots state report

  abbrev answered : Answer
  answered = answer_of s slots state report (length out)

  look_is : look_of s slots state report (length out) ≡ look_by answered here
  unfolding look_of look_from answer_of answer_by step_rules from
  look_is = refl

  room_is : answered ≡ Ok tt → (length out ≡ s.processors) × (s.processors ≤ 8)
  unfolding answer_of
  room_is e =
      let w = shown_kept _ _ _ here e in
      ((lengths_right _ _ _ _ w.lengths).1, (sound_facts s w.sound).few_processors)

  module _ {w : Shown} (e : Ok w ≡ look_of s slots state report (length out)) where
    pub room_for : length out ≤ 8
    room_for = let r = room_is (took answered here (e ∙ look_is)).0 in omega (arith, r.0, r.1)

    pub outcome_shown : {out' : List ℕ} → out' ≡ table (λ q. get_or w.row q 0) (length out)
        → StepOutcome s slots state report out (stepped (Ok tt) w.state) out'
    unfolding stepped_of left_of if_shown
    outcome_shown g =
        let t = took answered here (e ∙ look_is) in
        let r = room_is t.0 in
        record {
          answer = rw (t.0, t.1);
          left = g ∙ rw (t.0, t.1) (row_out (row_of here) (length out) (length_row here ∙ sym r.0) (omega (arith, r.0, r.1)));
        }

  pub outcome_refused : {r : StepError} → Err r ≡ look_of s slots state report (length out) → StepOutcome s slots state report out (stepped (Err r) state) out
  unfolding stepped_of left_of if_shown
  outcome_refused e = let t = turned answered here (e ∙ look_is) in record { answer = rw t; left = rw t }

-- ---- a step for C
module _ (tasks slots : List ℕ) (report : ℕ) (b out : List ℕ) where
  abbrev told : OneTick
  told = tick_in (taken_of tasks) slots report b

  abbrev said : Answer
  said = answer_in (taken_of tasks) slots report b (length out)

  look_for_lem : look_for tasks slots report b (length out) ≡ look_by said told
  unfolding look_for look_in look_from answer_in answer_by step_rules from
  look_for_lem = refl

  room_in_lem : said ≡ Ok tt → (length b ≡ 21) × (length out ≡ told.processors) × (told.processors ≤ 8)
  unfolding answer_in
  room_in_lem e =
      let w = shown_kept _ _ _ told e in
      let l = both {a = lengths_fit told.processors told.cycle (length slots) (length out)} w.lengths in
      (eqb-true (length b) 21 l.1, (lengths_right _ _ _ _ l.0).1, (sound_facts (set_of_taken (taken_of tasks)) (taken_sound tasks w.sound)).few_processors)

  module _ {w : Shown} (e : Ok w ≡ look_for tasks slots report b (length out)) where
    pub room_in_c : length out ≤ 8
    room_in_c = let r = room_in_lem (took said told (e ∙ look_for_lem)).0 in omega (arith, r.1, r.2)

    pub step_shown : {b' out' : List ℕ} → b' ≡ written_of w.state b → out' ≡ table (λ q. get_or w.row q 0) (length out)
        → step_leaves (Ok tt) b' out' ≡ step_for tasks slots report b out
    unfolding step_for if_shown
    step_shown f g =
        let t = took said told (e ∙ look_for_lem) in
        let r = room_in_lem t.0 in
        let z : length out ≤ 8 = omega (arith, r.1, r.2) in
        rw (t.0, f, g, t.1, written_is (step_of told) b r.0, row_out (row_of told) (length out) (length_row told ∙ sym r.1) z)

  pub step_refused : {r : StepError} → Err r ≡ look_for tasks slots report b (length out) → step_leaves (Err r) b out ≡ step_for tasks slots report b out
  unfolding step_for if_shown
  step_refused e = rw (turned said told (e ∙ look_for_lem))

-- ---- starting
pub started_by : (s : Set) (slots : List ℕ) (state : State) {v : Verdict} {r : Started} → v ≡ verdict_of s slots → r ≡ record { verdict = v; state = on_verdict v first_state state } → r ≡ started_of s slots state
unfolding started_of
started_by s slots state e g = g ∙ ap (λ (v : Verdict). record { verdict = v; state = on_verdict v first_state state }) e

module _ (tasks slots : List ℕ) (state : ℕ) where
  pub right_state : {v : Verdict} → state ≡ 21 → v ≡ judged_of tasks slots → v ≡ start_verdict tasks slots state
  unfolding start_verdict start_rules judged_of verdict_of first_of
  right_state l e = e ∙ rw (eq-eqb state 21 l) (by (taken_of tasks))
    where
      by : (t : Option TaskSet) → on_taking t slots
          ≡ pick (not (is_some t)) verdict.BadSet (first_of (rules (set_of_taken t) slots) verdict.Accepted)
      by (Some s) = refl
      by None = refl

  pub wrong_state : {t : Option TaskSet} → (state ≡ 21 → ⊥) → t ≡ taken_of tasks → is_some t ≡ true → verdict.WrongLength ≡ start_verdict tasks slots state
  unfolding start_verdict start_rules first_of
  wrong_state n e f = rw (← e, f, ne_eqb state 21 n)

  pub no_tasks_lem : {t : Option TaskSet} → t ≡ taken_of tasks → is_some t ≡ false → verdict.BadSet ≡ start_verdict tasks slots state
  unfolding start_verdict start_rules first_of
  no_tasks_lem e f = rw (← e, f)

pub first_written : {v : Verdict} {s : State} (b : List ℕ) {b' : List ℕ} → v ≡ verdict.Accepted → s ≡ first_state → b' ≡ written_of s b → b' ≡ first_bytes v b
unfolding first_bytes on_verdict
first_written b e f g = g ∙ rw (e, f)

pub start_by : (tasks slots state : List ℕ) {v : Verdict} {b : List ℕ} → v ≡ start_verdict tasks slots (length state) → b ≡ first_bytes v state → start_leaves v b ≡ start_for tasks slots state
unfolding start_for
start_by tasks slots state {v} e f = ap (start_leaves v) f ∙ ap (λ (w : Verdict). start_leaves w (first_bytes w state)) e
