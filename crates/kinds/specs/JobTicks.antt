-- What a job gets, by its meaning: how many ticks in its window, and the first and the last of them, in true time.
use Rattle.std.specs.Prelude.{◌≡◌, ℕ, ◌<◌, ◌≤◌}
use Rattle.kinds.specs.Tasks.{Tasks}
use Rattle.kinds.specs.Jobs.{release}
use Rattle.kinds.specs.Plans.{Plan, ticks}
use Rattle.kinds.specs.Valid.{TickOf}

-- Rule R3.8: job k of task i gets c ticks, the first at a and the last at b. Every tick of it lies from a to b; where it has some, a and b are such ticks, and
-- where it has none, both are its release. Of every job this is so of three numbers and of no others (laws `JobTicks`)
pub record Gets (u : Tasks) (p : Plan) (i k c a b : ℕ) : Type 0 where
  pub number : c ≡ ticks u p i k
  pub bounds : (x : ℕ) → TickOf u p i k x → (a ≤ x) × (x ≤ b)
  pub first : 0 < c → TickOf u p i k a
  pub last : 0 < c → TickOf u p i k b
  pub none : c ≡ 0 → (a ≡ release u i k) × (b ≡ release u i k)
