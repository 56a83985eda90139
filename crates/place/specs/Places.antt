-- Places of a file.
use Rattle.std.specs.Prelude.{List, ℕ, length, drop, Ok, Err}
use Rattle.numbers.specs.Numbers.{Number}
use Rattle.heads.specs.Tables.{Outcome}
use Rattle.reader.specs.Files.{outcome_read}

-- The place after what was read at a place: behind a number; the place itself, where there is none.
unfoldable pub next_of : Number → ℕ → ℕ
next_of (Ok (v, next)) at = next
next_of (Err r) at = at

-- The place of the first slot in a file of some length, by what the reader answers; a file that is refused has none, and its end stands for it.
unfoldable pub first_of : Outcome → ℕ → ℕ
first_of (Ok p) n = p
first_of (Err r) n = n

abbrev pub first_slot : List ℕ → ℕ
first_slot s = first_of (outcome_read s) (length s)

-- Rule R5.5: the slots are the bytes from there on, and a file that is refused has none.
abbrev pub slots_of : List ℕ → List ℕ
slots_of s = drop (first_slot s) s
