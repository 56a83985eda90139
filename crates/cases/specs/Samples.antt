-- What several parts of the second table ask about.
use Rattle.std.specs.Prelude.{List, [], ◌∷◌, ℕ, ◌+◌, ◌/◌, ◌%◌, ltb, take, drop}
use Rattle.vocabulary.specs.Test.{pick}

-- A file with two tasks and one pair: edition, task count and m at 0 to 2, tasks at 3 and 7, the pattern count at 11, the pattern at 12, four slots at 17.
unfoldable pub small : List ℕ
small =
    1 ∷ 2 ∷ 1
    ∷ 2 ∷ 1 ∷ 0 ∷ 2
    ∷ 4 ∷ 1 ∷ 0 ∷ 3
    ∷ 1 ∷ 0 ∷ 1 ∷ 1 ∷ 0 ∷ 0
    ∷ 1 ∷ 2 ∷ 1 ∷ 0 ∷ []

-- its head, and its slots
unfoldable pub small_head : List ℕ
small_head = take 17 small

unfoldable pub small_slots : List ℕ
small_slots = drop 17 small

-- Patterns among tasks 1 to 7, in order, six from each: the two tasks of pattern k.
unfoldable pub from_seven : ℕ → ℕ
from_seven k = k / 6 + 1

unfoldable pub to_seven : ℕ → ℕ
to_seven k = pick (ltb (k % 6) (k / 6)) (k % 6 + 1) (k % 6 + 2)
