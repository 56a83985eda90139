-- Number and evidence of each answer of a step, by docs/RULES.md, section 11. Starting answers with the judge's verdict.
use Rattle.std.specs.Prelude.{List, [], ◌∷◌, ℕ, Result, Ok, Err}
use Rattle.dispatcher.specs.declared.StepError.{StepError}
use Rattle.dispatcher.specs.declared.StepError.TheVariants as error

-- A step is taken, or it is refused for a reason.
abbrev pub Answer : Type 0
Answer = Result (Unit {0}) StepError

-- Rules R7.3, R7.4 and R11.5 to R11.7; 0 for a step that was taken.
abbrev pub number_of : Answer → ℕ
number_of (Ok taken) = 0
number_of (Err error.BadSet) = 10
number_of (Err error.WrongLength) = 11
number_of (Err error.BadState) = 30
number_of (Err error.BadReport) = 31
number_of (Err (error.BadSlot e)) = 12

-- Rule R11.7: 12 shows the lowest place, counted in the plan
abbrev pub evidence_of : Answer → List ℕ
evidence_of (Ok taken) = []
evidence_of (Err error.BadSet) = []
evidence_of (Err error.WrongLength) = []
evidence_of (Err error.BadState) = []
evidence_of (Err error.BadReport) = []
evidence_of (Err (error.BadSlot e)) = e ∷ []
