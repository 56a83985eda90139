-- Which links of a cycle lie within its block of H: all but those that their second number carries past the last round of their pattern.
use Rattle.std.specs.Prelude.{◌≡◌}
use Prim.Native.Nat.{ℕ, ◌+◌, ◌/◌, ◌<◌}
use Rattle.kinds.specs.Tasks.{Tasks, Patterns, period, to_task, pair_second}
use Rattle.kinds.specs.Cycle.{jobs_of}
use Rattle.kinds.specs.Links.{common, link_to}

-- how many jobs of a pattern's second task a round of the pattern has,
abbrev pub round_jobs : Tasks → Patterns → ℕ → ℕ
round_jobs u v k = common u v k / period u (to_task v k)

-- and in which round, counted from the one of its first job, the second job of a pair lies
unfoldable pub round_of : Tasks → Patterns → ℕ → ℕ → ℕ
round_of u v k q = pair_second v k q / round_jobs u v k

-- A link leads into the next block where its second job is a job of the cycle, one cycle later.
pub record NextBlock (u : Tasks) (v : Patterns) (k q n : ℕ) : Type 0 where
  pub job : ℕ
  pub low : job < jobs_of u (to_task v k)
  pub is : link_to u v k q n ≡ job + jobs_of u (to_task v k)
