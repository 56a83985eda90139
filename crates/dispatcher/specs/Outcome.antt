-- What stepping and writing promise of their answer and of what they leave behind a reference.
use Rattle.std.specs.Prelude.{◌≡◌, List, ℕ, eqb, length}
use Rattle.std.proofs.Common.{sym, ◌∙◌, eq-eqb}
use Rattle.vocabulary.specs.Test.{pick}
use Rattle.kinds.specs.Tasks.{Set}
use Rattle.dispatcher.specs.declared.State.{State}
use Rattle.dispatcher.specs.declared.Stepped.{Stepped}
use Rattle.dispatcher.specs.Refusals.{stepped_of, left_of}
use Rattle.dispatcher.specs.Bytes.{bytes_of}

-- Rule R7.8: for every input the answer, the next state and each byte of the output are determined.
pub record StepOutcome (s : Set) (slots : List ℕ) (state : State) (report : ℕ) (out : List ℕ) (r : Stepped) (out' : List ℕ) : Type 0 where
  pub answer : r ≡ stepped_of s slots state report out
  pub left : out' ≡ left_of s slots state report out

-- two outcomes of a step are equal
pub one_outcome : {s : Set} {slots : List ℕ} {state : State} {report : ℕ} {out : List ℕ} {r t : Stepped} {a b : List ℕ}
    → StepOutcome s slots state report out r a
    → StepOutcome s slots state report out t b
    → (r ≡ t) × (a ≡ b)
one_outcome p q = (p.answer ∙ sym q.answer, p.left ∙ sym q.left)

-- Rule R12.2: writing leaves the state's 21 bytes where there is room for just these, else what was there
unfoldable pub written_of : State → List ℕ → List ℕ
written_of s out = pick (eqb (length out) 21) (bytes_of s) out

pub written_is : (s : State) (out : List ℕ) → length out ≡ 21 → written_of s out ≡ bytes_of s
unfolding written_of
written_is s out e = rw (eq-eqb (length out) 21 e)
