-- Number and evidence of a refusal of the reader, of what stands at a place of a file, and of a number in its range, by docs/RULES.md, section 6.
use Rattle.std.specs.Prelude.{List, [], ◌∷◌, ℕ, Ok, Err}
use Rattle.numbers.specs.declared.Refusal.{Refusal}
use Rattle.numbers.specs.declared.Refusal.TheVariants as refusal
use Rattle.numbers.specs.declared.NumberFault.TheVariants as numberFault
use Rattle.numbers.specs.Numbers.{Number, Got}

-- Rules R6.1 to R6.9: the file ends too early, a number is badly formed, the edition is not known, a number is outside its limits, the cycle is too long,
-- a pattern or pair is out of range or order, there are too many links, a slot is too high, bytes are left over.
abbrev pub refusal_number : Refusal → ℕ
refusal_number (refusal.Ends p) = 1
refusal_number (refusal.Malformed p) = 2
refusal_number refusal.UnknownEdition = 3
refusal_number (refusal.OutOfLimits p) = 4
refusal_number (refusal.TooLong p) = 5
refusal_number (refusal.Disordered p) = 6
refusal_number (refusal.TooManyLinks p) = 9
refusal_number (refusal.BadSlot p) = 7
refusal_number (refusal.LeftOver p) = 8

-- 1 shows the file length, 3 shows 0, 5 and 9 the place after the last task and the last pattern, 8 the first byte left over, the others the first
-- byte of the number or slot.
abbrev pub refusal_evidence : Refusal → List ℕ
refusal_evidence (refusal.Ends p) = p ∷ []
refusal_evidence (refusal.Malformed p) = p ∷ []
refusal_evidence refusal.UnknownEdition = 0 ∷ []
refusal_evidence (refusal.OutOfLimits p) = p ∷ []
refusal_evidence (refusal.TooLong p) = p ∷ []
refusal_evidence (refusal.Disordered p) = p ∷ []
refusal_evidence (refusal.TooManyLinks p) = p ∷ []
refusal_evidence (refusal.BadSlot p) = p ∷ []
refusal_evidence (refusal.LeftOver p) = p ∷ []

-- What stands at a place: 0 with the number and the place after it, or 1 or 2 as a reader would refuse it, in a file of that length.
abbrev pub numeral_number : Number → ℕ
numeral_number (Ok (v, p)) = 0
numeral_number (Err numberFault.Ends) = 1
numeral_number (Err numberFault.Malformed) = 2

abbrev pub numeral_evidence : Number → (length at : ℕ) → List ℕ
numeral_evidence (Ok (v, p)) length at = v ∷ p ∷ []
numeral_evidence (Err numberFault.Ends) length at = length ∷ []
numeral_evidence (Err numberFault.Malformed) length at = at ∷ []

-- A number in its range: 0 with the number and the place after it, or the refusal's.
abbrev pub got_number : Got → ℕ
got_number (Ok (v, p)) = 0
got_number (Err r) = refusal_number r

abbrev pub got_evidence : Got → List ℕ
got_evidence (Ok (v, p)) = v ∷ p ∷ []
got_evidence (Err r) = refusal_evidence r
