-- Laws of a step: what it does with one task, and when it is refused.
use mathlib.Core.Path.{◌≡◌, refl, sym, ap, ◌∙◌}
use mathlib.Core.Bool.{Bool, true, false, ◌&&◌, ◌||◌, not}
use mathlib.Core.List.{List, [], ◌∷◌}
use mathlib.Core.Logic.{◌⊎◌, inl, inr}
use Prim.Native.Nat.{ℕ, ◌+◌, ◌-◌, ◌*◌, ◌<◌, ◌^◌}
use native.Mathlib.Omega.{arith}
use lib.Dec.{eqb, leb}
use lib.ListN.{length}
use borrow.Author.Tests.{lt-leb, leb-false, eq-eqb, ne_eqb, eqb-true, not-false}
use Rattle.std.specs.Prelude.{Ok, Err}
use Rattle.vocabulary.specs.Test.{pick}
use Rattle.vocabulary.proofs.Test.{clash, both, eq_or_ne, and_false}
use Rattle.vocabulary.specs.Least.{some}
use Rattle.vocabulary.proofs.Least.{some_same, some_and}
use Rattle.vocabulary.specs.Bits.{has}
use Rattle.vocabulary.proofs.Bits.{has_pack, pack_lt}
use Rattle.vocabulary.specs.Table.{table}
use Rattle.vocabulary.proofs.Table.{length_table, get_or_table}
use Rattle.vocabulary.specs.First.{first_of, numbers_of, earlier, Each, ◌also◌, Told, Claim, claim, KeptBy}
use Rattle.vocabulary.proofs.First.{first_told}
use Rattle.kinds.specs.Tasks.{Tasks, Set}
use Rattle.kinds.specs.Cycle.{cycle}
use Rattle.kinds.specs.Sound.{sound}
use Rattle.dispatcher.specs.declared.State.{State}
use Rattle.dispatcher.specs.declared.StepError.TheVariants as error
use Rattle.dispatcher.specs.Answers.{Answer, number_of}
use Rattle.dispatcher.specs.Steps.{OneTick, heard, releases, done_at, done_of, asleep, byte_of, row_of, stands_at, in_row, ran_of, after_of, step_of}
use Rattle.dispatcher.specs.Refusals.{impossible, overreports, is_high, step_rules, answer_by, if_shown, is_shown}
use Rattle.dispatcher.specs.Refusals.{tick_of, lengths_fit, answer_of, stepped, stepped_of, left_of}

-- ---- one task
module _ (k : OneTick) where
  -- the marks that a step leaves are below the task count
  pub done_low : (step_of k).done < 2 ^ k.tasks.count
  unfolding step_of after_of done_of
  done_low = pack_lt (done_at k.tasks k.cycle k.state k.report) k.tasks.count

  pub ran_low : (step_of k).ran < 2 ^ k.tasks.count
  unfolding step_of after_of ran_of
  ran_low = pack_lt (in_row (row_of k)) k.tasks.count

  -- what the done mark of task i becomes
  pub done_bit_lem : (i : ℕ) → i < k.tasks.count
      → has (done_of k) i ≡ (not (releases k.tasks k.cycle i k.state.tick) && (has k.state.done i || (has k.state.ran i && has k.report i)))
  unfolding done_of done_at heard
  done_bit_lem i l = has_pack (done_at k.tasks k.cycle k.state k.report) k.tasks.count i l

-- and its ran mark
pub ran_bit : (bytes : List ℕ) (n i : ℕ) → i < n → has (ran_of bytes n) i ≡ in_row bytes i
unfolding ran_of
ran_bit bytes n i l = has_pack (in_row bytes) n i l

-- a byte is i + 1 where the slot is, and task i is awake and not done
pub byte_is : (u : Tasks) (s : State) (done v i : ℕ) → eqb (byte_of u s done v) (i + 1) ≡ (not (asleep u s i || has done i) && eqb v (i + 1))
unfolding byte_of
byte_is u s done v i = flip (held v) ∙ same (eq_or_ne v (i + 1))
  where
    held : ℕ → Bool
    held w = eqb w 0 || (asleep u s (w - 1) || has done (w - 1))

    flip : (b : Bool) → eqb (pick b 0 v) (i + 1) ≡ (not b && eqb v (i + 1))
    flip true = ne_eqb 0 (i + 1) (λ e. omega arith)
    flip false = refl

    own : held (i + 1) ≡ (asleep u s i || has done i)
    own = let g : i + 1 - 1 ≡ i = omega arith in rw (ne_eqb (i + 1) 0 (λ e. omega arith), g)

    same : (v ≡ i + 1) ⊎ (v ≡ i + 1 → ⊥) → (not (held v) && eqb v (i + 1)) ≡ (not (asleep u s i || has done i) && eqb v (i + 1))
    same (inl e) = ap (λ (b : Bool). not b && eqb v (i + 1)) (ap held e ∙ own)
    same (inr e) = rw (ne_eqb v (i + 1) e) (and_false (not (held v)) ∙ sym (and_false (not (asleep u s i || has done i))))

-- so a row shows task i where a slot of the tick does, and the task is awake and not done
pub row_shows : (k : OneTick) (i : ℕ)
    → in_row (row_of k) i ≡ (not (asleep k.tasks k.state i || has (done_of k) i) && some (λ q. eqb (k.row q) (i + 1)) k.processors)
unfolding in_row row_of stands_at
row_shows k i =
    let m : ℕ = k.processors in
    let f : ℕ → ℕ = λ q. byte_of k.tasks k.state (done_of k) (k.row q) in
    let held : Bool = asleep k.tasks k.state i || has (done_of k) i in
    ap (some (stands_at (table f m) i)) (length_table f m)
    ∙ some_same (stands_at (table f m) i) (λ q. not held && eqb (k.row q) (i + 1)) m
    (λ q l. ap (λ (x : ℕ). eqb x (i + 1)) (get_or_table f m q 0 l) ∙ byte_is k.tasks k.state (done_of k) (k.row q) i)
    ∙ some_and (not held) (λ q. eqb (k.row q) (i + 1)) m

-- ---- refusals
-- what a step's rules say where none is broken
pub record NoneBroken (right fits bad : Bool) (k : OneTick) : Type 0 where
  pub sound : right ≡ true
  pub lengths : fits ≡ true
  pub possible : bad ≡ false
  pub reported : overreports k.tasks k.report ≡ false
  pub low : is_high k ≡ false

module _ (right fits bad : Bool) (k : OneTick) where
  claims : List Claim
  claims =
      claim 10 (right ≡ true)
      ∷ claim 11 (fits ≡ true)
      ∷ claim 30 (bad ≡ false)
      ∷ claim 31 (overreports k.tasks k.report ≡ false)
      ∷ claim 12 (is_high k ≡ false)
      ∷ []

  told : Each (Told (KeptBy claims) (λ a. Unit {0}) number_of) (step_rules right fits bad k)
  unfolding claims KeptBy step_rules
  told =
      record { kept = (λ e. not-false right e, λ e. ap not e); breach = λ e. tt; number = refl }
      also record { kept = (λ e. not-false fits e, λ e. ap not e); breach = λ e. tt; number = refl }
      also record { kept = (λ e. e, λ e. e); breach = λ e. tt; number = refl }
      also record { kept = (λ e. e, λ e. e); breach = λ e. tt; number = refl }
      also record { kept = (λ e. e, λ e. e); breach = λ e. tt; number = refl }
      also tt

  none_broken : ((m : ℕ) → earlier (numbers_of (step_rules right fits bad k)) m 0 ≡ true → KeptBy claims m) → NoneBroken right fits bad k
  unfolding claims KeptBy step_rules earlier
  none_broken w = record { sound = w 10 refl; lengths = w 11 refl; possible = w 30 refl; reported = w 31 refl; low = w 12 refl }

  -- a step whose answer has number 0 breaks none of the rules
  pub taken_kept : number_of (answer_by right fits bad k) ≡ 0 → NoneBroken right fits bad k
  unfolding answer_by
  taken_kept h = none_broken (rw h at (first_told (Ok tt) (KeptBy claims) (λ a. Unit {0}) number_of (step_rules right fits bad k) told tt).0)

  -- and one that breaks none shows its tick
  pub kept_shown : NoneBroken right fits bad k → answer_by right fits bad k ≡ Ok tt
  unfolding answer_by step_rules first_of
  kept_shown w = rw (w.sound, w.lengths, w.possible, w.reported, w.low)

-- a step is taken where its number is 0
pub zero_shown : (a : Answer) → number_of a ≡ 0 → a ≡ Ok tt
zero_shown (Ok taken) e = refl
zero_shown (Err error.BadSet) e = absurd (omega arith)
zero_shown (Err error.WrongLength) e = absurd (omega arith)
zero_shown (Err error.BadState) e = absurd (omega arith)
zero_shown (Err error.BadReport) e = absurd (omega arith)
zero_shown (Err (error.BadSlot x)) e = absurd (omega arith)

pub shown_kept : (right fits bad : Bool) (k : OneTick) → answer_by right fits bad k ≡ Ok tt → NoneBroken right fits bad k
shown_kept right fits bad k e = taken_kept right fits bad k (ap number_of e)

-- what is done with a tick that is shown, and with a refusal
pub when_shown : {A : Type 0} (a : Answer) (x y : A) → a ≡ Ok tt → if_shown a x y ≡ x
unfolding if_shown
when_shown a x y e = rw e

pub when_refused : {A : Type 0} (a : Answer) (x y : A) → is_shown a ≡ false → if_shown a x y ≡ y
unfolding if_shown
when_refused (Ok taken) x y e = clash refl e
when_refused (Err r) x y e = refl

pub number_refused : (a : Answer) → (number_of a ≡ 0 → ⊥) → is_shown a ≡ false
unfolding if_shown
number_refused (Ok taken) n = absurd (n refl)
number_refused (Err r) n = refl

pub shown_or_not : (a : Answer) → (a ≡ Ok tt) ⊎ (is_shown a ≡ false)
unfolding if_shown
shown_or_not (Ok taken) = inl refl
shown_or_not (Err r) = inr refl

-- ---- a step by value
-- what no test refuses
pub record Allowed (s : Set) (slots : List ℕ) (state : State) (report : ℕ) (out : List ℕ) : Type 0 where
  pub is_sound : sound s ≡ true
  pub long : length slots ≡ s.processors * cycle s.tasks
  pub wide : length out ≡ s.processors
  pub possible : impossible s.tasks (cycle s.tasks) state ≡ false
  pub in_range : overreports s.tasks report ≡ false
  pub low : is_high (tick_of s slots state report) ≡ false

pub lengths_right : (m h slots out : ℕ) → lengths_fit m h slots out ≡ true → (slots ≡ m * h) × (out ≡ m)
unfolding lengths_fit
lengths_right m h slots out e =
    let w = both {a = eqb slots (m * h)} e in
    (eqb-true slots (m * h) w.0, eqb-true out m w.1)

pub right_lengths : (m h slots out : ℕ) → slots ≡ m * h → out ≡ m → lengths_fit m h slots out ≡ true
unfolding lengths_fit
right_lengths m h slots out a b = rw (eq-eqb slots (m * h) a, eq-eqb out m b)

module _ (s : Set) (slots : List ℕ) (state : State) (report : ℕ) (out : List ℕ) where
  abbrev a : Answer
  a = answer_of s slots state report (length out)

  allowed_shown : Allowed s slots state report out → answer_of s slots state report (length out) ≡ Ok tt
  unfolding answer_of
  allowed_shown w =
      kept_shown _ _ _ (tick_of s slots state report)
      (record { sound = w.is_sound; lengths = right_lengths _ _ _ _ w.long w.wide; possible = w.possible; reported = w.in_range; low = w.low })

  -- a step that no test refuses is taken: it hands back the next state and leaves its row
  pub none_refuses : Allowed s slots state report out
      → (stepped_of s slots state report out ≡ stepped (Ok tt) (step_of (tick_of s slots state report)))
      × (left_of s slots state report out ≡ row_of (tick_of s slots state report))
  unfolding stepped_of left_of if_shown
  none_refuses w = (rw (allowed_shown w), rw (allowed_shown w))

  -- a step whose answer has number 0 was refused by none
  pub taken_allowed : number_of (stepped_of s slots state report out).answer ≡ 0 → Allowed s slots state report out
  unfolding stepped_of answer_of
  taken_allowed h =
      let w = taken_kept _ _ _ (tick_of s slots state report) h in
      let l = lengths_right _ _ _ _ w.lengths in
      record {
        is_sound = w.sound;
        long = l.0;
        wide = l.1;
        possible = w.possible;
        in_range = w.reported;
        low = w.low;
      }

  -- any other leaves state and output
  pub refused_step : is_shown (stepped_of s slots state report out).answer ≡ false
      → ((stepped_of s slots state report out).state ≡ state) × (left_of s slots state report out ≡ out)
  unfolding stepped_of left_of
  refused_step e = (when_refused a (step_of (tick_of s slots state report)) state e, when_refused a (row_of (tick_of s slots state report)) out e)

-- a state below the cycle, whose marks are below the task count, is possible
pub is_possible : (u : Tasks) (h : ℕ) (s : State) → s.tick < h → s.done < 2 ^ u.count → s.ran < 2 ^ u.count → impossible u h s ≡ false
unfolding impossible
is_possible u h s t d r = rw (lt-leb h s.tick t, lt-leb (2 ^ u.count) s.done d, lt-leb (2 ^ u.count) s.ran r)

neither_of : (a b : Bool) → (a || b) ≡ false → (a ≡ false) × (b ≡ false)
neither_of true b e = clash refl e
neither_of false b e = (refl, e)

-- and a possible one is such a state
pub possible_low : (u : Tasks) (h : ℕ) (s : State) → impossible u h s ≡ false → (s.tick < h) × (s.done < 2 ^ u.count) × (s.ran < 2 ^ u.count)
unfolding impossible
possible_low u h s e =
    let a = neither_of (leb h s.tick) (leb (2 ^ u.count) s.done || leb (2 ^ u.count) s.ran) e in
    let b = neither_of (leb (2 ^ u.count) s.done) (leb (2 ^ u.count) s.ran) a.1 in
    (leb-false h s.tick a.0, leb-false (2 ^ u.count) s.done b.0, leb-false (2 ^ u.count) s.ran b.1)

-- a report below 2 to the power of the task count has no bit at or above it
pub no_overreport : (u : Tasks) (report : ℕ) → report < 2 ^ u.count → overreports u report ≡ false
unfolding overreports
no_overreport u report l = lt-leb (2 ^ u.count) report l

pub report_low : (u : Tasks) (report : ℕ) → overreports u report ≡ false → report < 2 ^ u.count
unfolding overreports
report_low u report e = leb-false (2 ^ u.count) report e
