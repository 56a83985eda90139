-- Rules R4.1 and R2.4: the editions of plan files, a kind of their own.
use Rattle.std.specs.Prelude.{List, [], ◌∷◌, map, ℕ, ◌+◌, length, get_or, Option, Some, None}
use Rattle.kinds.specs.declared.Edition.{Edition}
use Rattle.kinds.specs.Limits.{Range, range}

-- an edition by how far the second number of a pair reaches: over so many rounds of its pattern
abbrev pub over : ℕ → Edition
over n = record { rounds = n }

-- The editions that are known, from edition 1 on: in edition 1 a link stays within the round of its pattern, in edition 2 it may lead into the next.
abbrev pub known : List Edition
known = over 1 ∷ over 2 ∷ []

-- their numbers
abbrev pub editions : Range
editions = range 1 (length known + 1)

-- the edition with a number, if it is known
unfoldable pub edition_of : ℕ → Option Edition
edition_of e = get_or (None ∷ map Some known) e None

-- over how many rounds it reaches; one that is not known reaches over no round
abbrev pub rounds_in : Option Edition → ℕ
rounds_in None = 0
rounds_in (Some x) = x.rounds

abbrev pub rounds_of : ℕ → ℕ
rounds_of e = rounds_in (edition_of e)
