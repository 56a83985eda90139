-- What comes again after each cycle: slots, and the releases of jobs. That they do is proved in proofs/Repeat.antt.
use Rattle.std.specs.Prelude.{◌≡◌, ℕ, ◌+◌, ◌*◌, ◌/◌, ◌%◌}
use Rattle.kinds.specs.Tasks.{Tasks}
use Rattle.kinds.specs.Cycle.{cycle, jobs_of}
use Rattle.kinds.specs.Jobs.{release}
use Rattle.kinds.specs.Plans.{Plan, slot}

-- a slot, c cycles on
abbrev pub SlotsAgain : Plan → ℕ → ℕ → ℕ → Type 0
SlotsAgain p t c q = slot p (t + c * p.cycle) q ≡ slot p t q

-- job k is job k % n of its cycle, k / n cycles on
abbrev pub ReleasesAgain : Tasks → ℕ → ℕ → Type 0
ReleasesAgain u i k = release u i k ≡ release u i (k % jobs_of u i) + k / jobs_of u i * cycle u
