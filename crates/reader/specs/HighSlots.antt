-- Which slot of a file is above n, by how many slots come before it, where the slots begin at a place.
use Rattle.std.specs.Prelude.{Bool, List, ℕ, ◌+◌}
use Rattle.slots.specs.High.{high}

abbrev pub high_from : List ℕ → ℕ → ℕ → ℕ → Bool
high_from file n start j = high file n (start + j)
