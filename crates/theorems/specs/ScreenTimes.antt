-- Adjusted times exist, are the only ones, and fit the buffers that they are written to.
use Rattle.std.specs.Prelude.{◌≡◌, refl, true, ◌⊎◌, ℕ, suc, ◌-◌, ◌^◌, ◌≤◌, ◌<◌, ℤ, pos}
use Rattle.std.proofs.Common.{inl, inr, arith, le-leb}
use Rattle.std.proofs.Math.IntN.{sub_ℕ}
use Rattle.std.specs.Int.Signed.{le_z}
use Rattle.vocabulary.proofs.Test.{fails, lt_or_le}
use Rattle.graph.specs.Graph.{Graph, Way, loops}
use Rattle.graph.specs.Reach.{Free}
use Rattle.graph.proofs.Reach.{reach_way}
use Rattle.graph.proofs.Settle.{rounds_solve, only}
use Rattle.graph.proofs.Sub.{sub_ge, sub_lt}
use Rattle.graph.proofs.Equation.{soonest_solves, soonest_only}
use Rattle.kinds.specs.Tasks.{Tasks, Patterns, Set}
use Rattle.kinds.specs.Cycle.{jobs}
use Rattle.kinds.specs.Sound.{sound}
use Rattle.kinds.proofs.SoundFacts.{Sound, sound_facts}
use Rattle.network.specs.Network.{network}
use Rattle.network.specs.NetworkLaws.{jobs_of_network, inside_network}
use Rattle.network.specs.Times.{own_release, own_due, own_running, Weight, ReleasesBy, release_by, AdjustedReleases, AdjustedDeadlines, adjusted_release}
use Rattle.network.specs.Times.{adjusted_deadline}
use Rattle.network.specs.TimesLaws.{ahead, ahead_low, adjusted_release_low, adjusted_deadline_is}

-- no way of at least one link leads from a job of the cycle to itself
pub record NoCycle (u : Tasks) (v : Patterns) : Type 0 where
  pub each : (x : ℕ) → x < jobs u → Way (network u v) x x → ⊥

-- numbers of 32 bits with a sign
pub record Signed32 (z : ℤ) : Type 0 where
  pub low : le_z (sub_ℕ 0 (2 ^ 31)) z ≡ true
  pub high : le_z z (pos (2 ^ 31 - 1)) ≡ true

-- the same as a test of every job
pub no_cycle_free : (u : Tasks) (v : Patterns) → NoCycle u v → Free (network u v)
unfolding loops
no_cycle_free u v free x l = fails (λ e. free.each x (rw jobs_of_network at l) (reach_way (network u v) x (network u v).n x e))

sub_signed : (a : ℕ) → a ≤ 12300000 → Signed32 (sub_ℕ 12000 a)
sub_signed a h = go (lt_or_le 12000 a)
  where
    go : (12000 < a) ⊎ (a ≤ 12000) → Signed32 (sub_ℕ 12000 a)
    go (inl l) = rw (sub_lt 12000 a l) (record { low = le-leb (a - suc 12000) (2 ^ 31 - 1) (omega arith); high = refl })
    go (inr l) = rw (sub_ge 12000 a l) (record { low = refl; high = le-leb (12000 - a) (2 ^ 31 - 1) (omega arith) })

-- ==== On a sound set whose links make no cycle, the adjusted releases and deadlines that are computed satisfy rules R8.2 and R8.3 for every job
-- of the cycle (`adjusted_releases`, `adjusted_deadlines`); whatever else satisfies them is the same for every such job (`-only`); and each of them
-- is a signed 32-bit number, the releases none below 0 (`-fit`). Releases over any weight exist and are the only ones (`releases_by`).
module _ (s : Set) (e : sound s ≡ true) (free : NoCycle s.tasks s.patterns) where
  abbrev f : Sound s
  f = sound_facts s e

  abbrev g : Graph
  g = network s.tasks s.patterns

  pub releases_by : (w : Weight) → ReleasesBy w s.tasks s.patterns (release_by w s.tasks s.patterns)
  unfolding release_by
  releases_by w =
      record { solves = rounds_solve g (own_release s.tasks) (w s.tasks) (inside_network s f) (no_cycle_free s.tasks s.patterns free) }

  pub releases_by_only : (w : Weight) (a b : ℕ → ℕ) → ReleasesBy w s.tasks s.patterns a → ReleasesBy w s.tasks s.patterns b → (x : ℕ)
      → x < jobs s.tasks → a x ≡ b x
  releases_by_only w a b p q x l =
      only g (own_release s.tasks) (w s.tasks) (inside_network s f) (no_cycle_free s.tasks s.patterns free) a b p.solves q.solves x
      (rw jobs_of_network l)

  pub adjusted_releases : AdjustedReleases s.tasks s.patterns (adjusted_release s.tasks s.patterns)
  adjusted_releases = releases_by own_running

  pub adjusted_releases_only : (a b : ℕ → ℕ) → AdjustedReleases s.tasks s.patterns a → AdjustedReleases s.tasks s.patterns b → (x : ℕ)
      → x < jobs s.tasks → a x ≡ b x
  adjusted_releases_only = releases_by_only own_running

  pub adjusted_releases_fit : (x : ℕ) → x < jobs s.tasks → adjusted_release s.tasks s.patterns x < 2 ^ 31
  adjusted_releases_fit x l = omega (arith, adjusted_release_low s f x l)

  pub adjusted_deadlines : AdjustedDeadlines s.tasks s.patterns (adjusted_deadline s.tasks s.patterns)
  unfolding adjusted_deadline
  adjusted_deadlines =
      record { solves = soonest_solves g (own_due s.tasks) (own_running s.tasks) (inside_network s f) (no_cycle_free s.tasks s.patterns free) }

  pub adjusted_deadlines_only : (a b : ℕ → ℤ) → AdjustedDeadlines s.tasks s.patterns a → AdjustedDeadlines s.tasks s.patterns b → (x : ℕ)
      → x < jobs s.tasks → a x ≡ b x
  adjusted_deadlines_only a b p q x l =
      soonest_only g (own_due s.tasks) (own_running s.tasks) (inside_network s f) (no_cycle_free s.tasks s.patterns free) a b p.solves
      q.solves x
      (rw jobs_of_network l)

  pub adjusted_deadlines_fit : (x : ℕ) → x < jobs s.tasks → Signed32 (adjusted_deadline s.tasks s.patterns x)
  adjusted_deadlines_fit x l = rw (adjusted_deadline_is s f x l) (sub_signed (ahead s.tasks s.patterns x) (ahead_low s f x l))
