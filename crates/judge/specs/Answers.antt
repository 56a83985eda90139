-- Number and evidence of each verdict, by docs/RULES.md, section 10.
use Rattle.std.specs.Prelude.{List, [], ◌∷◌, ℕ}
use Rattle.judge.specs.declared.Verdict.{Verdict}
use Rattle.judge.specs.declared.Verdict.TheVariants as verdict

-- Rules R7.3 to R7.5 and R10.2 to R10.5; 0 for a plan that is accepted.
abbrev pub number_of : Verdict → ℕ
number_of verdict.Accepted = 0
number_of verdict.BadSet = 10
number_of verdict.WrongLength = 11
number_of (verdict.BadSlot e) = 12
number_of (verdict.Twice t q r) = 20
number_of (verdict.Outside t q) = 21
number_of (verdict.WrongCount i k c a b) = 22
number_of (verdict.BrokenLink k q n) = 23

-- Rule R7.1: 12 shows a place, 20 tick and two processors, 21 tick and processor, 22 a job, how many ticks it gets, and the first and the last of them, 23
-- pattern, pair and k, the others nothing.
abbrev pub evidence_of : Verdict → List ℕ
evidence_of verdict.Accepted = []
evidence_of verdict.BadSet = []
evidence_of verdict.WrongLength = []
evidence_of (verdict.BadSlot e) = e ∷ []
evidence_of (verdict.Twice t q r) = t ∷ q ∷ r ∷ []
evidence_of (verdict.Outside t q) = t ∷ q ∷ []
evidence_of (verdict.WrongCount i k c a b) = i ∷ k ∷ c ∷ a ∷ b ∷ []
evidence_of (verdict.BrokenLink k q n) = k ∷ q ∷ n ∷ []
