-- A number of a plan file.
use Rattle.std.specs.Prelude.{List, [], ◌∷◌, ℕ, ◌+◌, ◌*◌, ◌-◌, ◌/◌, ◌%◌, leb, ltb, eqb, length, get_or, Result, Ok, Err}
use Rattle.vocabulary.specs.Test.{pick}
use Rattle.kinds.specs.Limits.{Range, holds}
use Rattle.numbers.specs.declared.Refusal.{Refusal}
use Rattle.numbers.specs.declared.Refusal.TheVariants as refusal
use Rattle.numbers.specs.declared.NumberFault.{NumberFault}
use Rattle.numbers.specs.declared.NumberFault.TheVariants as numberFault

-- What stands at a place is a number with the place after it, or a fault; what is held to a range is the same, or a refusal.
abbrev pub Number : Type 0
Number = Result (ℕ × ℕ) NumberFault

abbrev pub Got : Type 0
Got = Result (ℕ × ℕ) Refusal

-- Rules R5.1 and R5.2: one to three bytes of seven bits, the lowest first, in the shortest form. A second or third byte of 0 would add nothing, so the form
-- is not shortest; a third byte has no top bit.
unfoldable pub number_at : List ℕ → ℕ → Number
number_at s at =
    pick (leb (length s) at) (Err numberFault.Ends)
    (pick (ltb (get_or s at 0) 128) (Ok (get_or s at 0, at + 1))
    (pick (leb (length s) (at + 1)) (Err numberFault.Ends)
    (pick (eqb (get_or s (at + 1) 0) 0) (Err numberFault.Malformed)
    (pick (ltb (get_or s (at + 1) 0) 128) (Ok (get_or s at 0 - 128 + 128 * get_or s (at + 1) 0, at + 2))
    (pick (leb (length s) (at + 2)) (Err numberFault.Ends)
    (pick (eqb (get_or s (at + 2) 0) 0) (Err numberFault.Malformed)
    (pick (ltb (get_or s (at + 2) 0) 128)
    (Ok (get_or s at 0 - 128 + 128 * (get_or s (at + 1) 0 - 128) + 16384 * get_or s (at + 2) 0, at + 3))
    (Err numberFault.Malformed))))))))

-- The same from the number's side: its bytes, which are one below 128, two below 16,384 and three below 2,097,152. Every byte but the last has its top bit.
unfoldable pub number_bytes : ℕ → List ℕ
number_bytes v =
    pick (ltb v 128) (v ∷ [])
    (pick (ltb v 16384) ((128 + v % 128) ∷ (v / 128) ∷ [])
    ((128 + v % 128) ∷ (128 + v / 128 % 128) ∷ (v / 16384) ∷ []))

-- Rule R6.11: what was read at a place of a file of some length, its form first, and then held to a range
unfoldable pub held : Number → ℕ → ℕ → Range → Refusal → Got
held (Err numberFault.Ends) len at r fault = Err (refusal.Ends len)
held (Err numberFault.Malformed) len at r fault = Err (refusal.Malformed at)
held (Ok (v, next)) len at r fault = pick (holds r v) (Ok (v, next)) (Err fault)

unfoldable pub got_at : List ℕ → ℕ → Range → Refusal → Got
got_at s at r fault = held (number_at s at) (length s) at r fault

-- Rule R6.10: a refusal ends the reading, else it goes on with the number and the next place
unfoldable pub and_then : {A : Type 0} → Got → (ℕ → ℕ → Result A Refusal) → Result A Refusal
and_then (Ok (v, next)) k = k v next
and_then (Err r) k = Err r
