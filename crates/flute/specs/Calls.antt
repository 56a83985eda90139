-- Rule R12.5: what the calls for C answer, a number, and one evidence number at a time.
use Rattle.std.specs.Prelude.{◌≡◌, refl, List, [], ◌∷◌, ℕ, ◌%◌, ℤ, get_or, length, Result, Ok, Err, MatchResult, IsOkAnd}
use Rattle.std.proofs.Common.{sym, ap, ◌∙◌}
use Rattle.vocabulary.specs.First.{from}
use Rattle.heads.specs.Tables.{Outcome}
use Rattle.numbers.specs.declared.Refusal.{Refusal}
use Rattle.numbers.specs.declared.Refusal.TheVariants as refusal
use Rattle.numbers.specs.Answers.{refusal_evidence}
use Rattle.reader.specs.Answers.{number_of, evidence_of}
use Rattle.reader.specs.Files.{outcome_read}
use Rattle.writer.specs.declared.WriteError.{WriteError}
use Rattle.writer.specs.Answers as writeAnswers
use Rattle.writer.specs.Writing.{WriteLeft, write_leaves}
use Rattle.judge.specs.declared.Verdict.{Verdict}
use Rattle.judge.specs.Answers as judgeAnswers
use Rattle.dispatcher.specs.Answers as stepAnswers
use Rattle.dispatcher.specs.declared.Shown.{Shown}
use Rattle.dispatcher.specs.Answers.{Answer}
use Rattle.dispatcher.specs.Steps.{OneTick}
use Rattle.dispatcher.specs.Refusals.{step_rules, answer_by}
use Rattle.dispatcher.specs.ForC.{StartForC, start_leaves, StepForC, step_leaves, answer_in, step_for}
use Rattle.dispatcher.specs.Looks.{look_by, look_from, look_in, look_for, Look, answer_by_look}
use Rattle.screen.specs.Answers.{Adjusted}
use Rattle.screen.specs.Answers.{adjusted_number}
use Rattle.screen.specs.Heads.{AdjustedBy}

-- evidence number `which`, 0 past the last, in 32 bits
abbrev pub evidence_in : List ℕ → ℕ → ℕ
evidence_in xs which = get_or xs which 0 % 4294967296

-- ---- flute_read
unfoldable pub read_number : List ℕ → ℕ
read_number file = number_of (outcome_read file)

unfoldable pub read_evidence : List ℕ → ℕ → ℕ
read_evidence file which = evidence_in (evidence_of (outcome_read file)) which

-- ---- flute_start: the verdict's number, and what is left in the state's bytes
pub record StartLeft (b : StartForC) (r : ℕ) (state : List ℕ) : Type 0 where
  pub number : r ≡ judgeAnswers.number_of b.verdict
  pub kept : state ≡ b.state

pub started : {b : StartForC} {v : Verdict} {r : ℕ} {state : List ℕ} → start_leaves v state ≡ b → r ≡ judgeAnswers.number_of v → StartLeft b r state
started e n =
    record {
      number = n ∙ ap (λ (x : StartForC). judgeAnswers.number_of x.verdict) e;
      kept = ap (λ (x : StartForC). x.state) e;
    }

-- two outcomes that the contract allows on the same arguments are equal: number and state's bytes
pub start_once : {b : StartForC} {r r' : ℕ} {state state' : List ℕ} → StartLeft b r state → StartLeft b r' state' → (r ≡ r') × (state ≡ state')
start_once p q = (p.number ∙ sym q.number, p.kept ∙ sym q.kept)

-- ---- flute_write: the answer's number, and what is left in the buffer
pub record WroteLeft (l : WriteLeft) (r : ℕ) (out : List ℕ) : Type 0 where
  pub number : r ≡ writeAnswers.number_of l.answer
  pub left : out ≡ l.out

pub wrote : {l : WriteLeft} {w : Result ℕ WriteError} {r : ℕ} {out : List ℕ} → write_leaves w out ≡ l → r ≡ writeAnswers.number_of w → WroteLeft l r out
wrote e n =
    record {
      number = n ∙ ap (λ (x : WriteLeft). writeAnswers.number_of x.answer) e;
      left = ap (λ (x : WriteLeft). x.out) e;
    }

-- two outcomes that the contract allows on the same arguments are equal: number and buffer
pub write_once : {l : WriteLeft} {r r' : ℕ} {out out' : List ℕ} → WroteLeft l r out → WroteLeft l r' out' → (r ≡ r') × (out ≡ out')
write_once p q = (p.number ∙ sym q.number, p.left ∙ sym q.left)

-- ---- flute_step: the answer's number, and what is left in the state's bytes and in the output
pub record StepLeft (l : StepForC) (r : ℕ) (state out : List ℕ) : Type 0 where
  pub number : r ≡ stepAnswers.number_of l.answer
  pub kept : state ≡ l.state
  pub shown : out ≡ l.out

pub stepped : {l : StepForC} {a : Answer} {r : ℕ} {state out : List ℕ} → step_leaves a state out ≡ l → r ≡ stepAnswers.number_of a → StepLeft l r state out
stepped e n =
    record {
      number = n ∙ ap (λ (x : StepForC). stepAnswers.number_of x.answer) e;
      kept = ap (λ (x : StepForC). x.state) e;
      shown = ap (λ (x : StepForC). x.out) e;
    }

-- two outcomes that the contract allows on the same arguments are equal: number, state's bytes and output
pub step_once : {l : StepForC} {r r' : ℕ} {state state' out out' : List ℕ} → StepLeft l r state out → StepLeft l r' state' out'
    → (r ≡ r') × (state ≡ state') × (out ≡ out')
step_once p q = (p.number ∙ sym q.number, p.kept ∙ sym q.kept, p.shown ∙ sym q.shown)

said_by : (a : Answer) (k : OneTick) → answer_by_look (look_by a k) ≡ a
unfolding answer_by_look look_by
said_by (Ok taken) k = refl
said_by (Err e) k = refl

-- a look at a step has the step's answer
pub looked : (tasks slots : List ℕ) (report : ℕ) (state out : List ℕ) {l : Look} → l ≡ look_for tasks slots report state (length out)
    → answer_by_look l ≡ (step_for tasks slots report state out).answer
unfolding look_for look_in look_from step_for answer_in answer_by step_rules from
looked tasks slots report state out e = ap answer_by_look e ∙ said_by _ _

-- a look without what it shows
pub unshown : (l : Look) (a : Answer) (P : Shown → Unit {0} → Type 0) → MatchResult l (λ w. IsOkAnd a (P w)) (λ e. a ≡ Err e) → a ≡ answer_by_look l
unfolding answer_by_look
unshown (Ok w) (Ok taken) P h = refl
unshown (Ok w) (Err e) P h = absurd h
unshown (Err e) a P h = h

-- the reader's evidence is one number
one_place : (r : Refusal) → refusal_evidence r ≡ get_or (refusal_evidence r) 0 0 ∷ []
one_place (refusal.Ends p) = refl
one_place (refusal.Malformed p) = refl
one_place refusal.UnknownEdition = refl
one_place (refusal.OutOfLimits p) = refl
one_place (refusal.TooLong p) = refl
one_place (refusal.Disordered p) = refl
one_place (refusal.TooManyLinks p) = refl
one_place (refusal.BadSlot p) = refl
one_place (refusal.LeftOver p) = refl

pub one_evidence : (o : Outcome) → evidence_of o ≡ get_or (evidence_of o) 0 0 ∷ []
one_evidence (Ok p) = refl
one_evidence (Err r) = one_place r

-- ---- from the calls to the definitions
pub read_number_lem : (file : List ℕ) {o : Outcome} {n : ℕ} → o ≡ outcome_read file → n ≡ number_of o → n ≡ read_number file
unfolding read_number
read_number_lem file e q = q ∙ ap number_of e

pub read_evidence_lem : (file : List ℕ) (which : ℕ) {o : Outcome} {p x r : ℕ} → o ≡ outcome_read file → p ≡ get_or (evidence_of o) 0 0
    → x ≡ get_or (p ∷ []) which 0 → r ≡ x % 4294967296 → r ≡ read_evidence file which
unfolding read_evidence
read_evidence_lem file which {o} e q x r =
    r
    ∙ ap (λ (y : ℕ). y % 4294967296)
    (x
    ∙ ap (λ (y : ℕ). get_or (y ∷ []) which 0) q
    ∙ ap (λ (ys : List ℕ). get_or ys which 0) (sym (one_evidence o))
    ∙ ap (λ (o : Outcome). get_or (evidence_of o) which 0) e)

-- evidence of an answer, by its place and in 32 bits: E gives the evidence of each answer
pub narrowed : {A : Type 0} (E : A → List ℕ) (b : A) (which : ℕ) {a : A} {x r : ℕ} → a ≡ b → x ≡ get_or (E a) which 0 → r ≡ x % 4294967296
    → r ≡ evidence_in (E b) which
narrowed {A} E b which e q p = p ∙ ap (λ (y : ℕ). y % 4294967296) (q ∙ ap (λ (c : A). get_or (E c) which 0) e)

-- ---- flute_adjust: the number of an answer
pub numbered : (tasks : List ℕ) (r d : List ℤ) {a : Adjusted} {n : ℕ} {r' d' : List ℤ} → AdjustedBy (λ b. b) tasks r d a r' d' → n ≡ adjusted_number a
    → AdjustedBy adjusted_number tasks r d n r' d'
numbered tasks r d h q = record { answer = q ∙ ap adjusted_number h.answer; releases = h.releases; deadlines = h.deadlines }
