-- Rules R7.5 and R6.8, which are about 12 and 7: the slot at place e is above the task count n.
use Rattle.std.specs.Prelude.{Bool, List, ℕ, ltb, get_or}

unfoldable pub high : List ℕ → ℕ → ℕ → Bool
high slots n e = ltb n (get_or slots e 0)
