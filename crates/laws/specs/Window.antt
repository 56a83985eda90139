-- A job's window within the cycle that begins at its task's first release, and the ticks of a cycle counted from there.
use Rattle.std.specs.Prelude.{Bool, ◌&&◌, ℕ, ◌+◌, ◌/◌, ◌%◌, eqb, leb, ltb}
use Rattle.vocabulary.specs.Test.{pick}

-- ---- the window of job j, y ticks after the first release
abbrev pub falls : ℕ → ℕ → ℕ → ℕ → Bool
falls t d j y = eqb (y / t) j && ltb (y % t) d

-- ---- times and slot ticks
-- the time of slot tick c that lies in the cycle from o on
unfoldable pub time_of : ℕ → ℕ → ℕ → ℕ
time_of h o c = pick (leb o c) c (c + h)
