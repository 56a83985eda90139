-- H at `cycle`: a common multiple of all periods of a sound set, and the least one.
use Rattle.std.specs.Prelude.{◌≡◌, true, ℕ, ◌<◌, ◌≤◌}
use Rattle.std.specs.Int.{◌∣◌}
use Rattle.std.proofs.Math.Nat.{le_of_dvd}
use Rattle.std.proofs.Common.{le_antisymm}
use Rattle.vocabulary.proofs.Multiple.{lcm_of_least}
use Rattle.kinds.specs.Tasks.{Tasks, Set, period}
use Rattle.kinds.specs.Cycle.{cycle}
use Rattle.kinds.specs.Sound.{sound}
use Rattle.kinds.proofs.SoundFacts.{Sound, sound_facts}
use Rattle.theorems.specs.Foundations.{period_divides}

-- q is a common multiple of all periods
pub record Multiple (u : Tasks) (q : ℕ) : Type 0 where
  pub some : 0 < q
  pub each : (i : ℕ) → i < u.count → period u i ∣ q

-- and no other is lower
pub record LeastMultiple (u : Tasks) (h : ℕ) : Type 0 where
  pub is : Multiple u h
  pub least : (q : ℕ) → Multiple u q → h ≤ q

cycle_of_lem : (s : Set) → Sound s → (q : ℕ) → Multiple s.tasks q → cycle s.tasks ∣ q
unfolding cycle
cycle_of_lem s f q m = lcm_of_least (λ i. period s.tasks i) s.tasks.count q f.some_period m.each

-- ==== The cycle of a sound set divides every common multiple of the periods;
pub cycle_divides : (s : Set) → sound s ≡ true → (q : ℕ) → Multiple s.tasks q → cycle s.tasks ∣ q
cycle_divides s e = cycle_of_lem s (sound_facts s e)

-- ==== it is one itself, and the least;
pub least_cycle : (s : Set) → sound s ≡ true → LeastMultiple s.tasks (cycle s.tasks)
least_cycle s e =
    let f = sound_facts s e in
    record {
      is = record { some = f.some_cycle; each = period_divides s f };
      least = λ q m. le_of_dvd m.some (cycle_of_lem s f q m);
    }

-- ==== and nothing else is.
pub only_cycle : (s : Set) → sound s ≡ true → (h : ℕ) → LeastMultiple s.tasks h → h ≡ cycle s.tasks
only_cycle s e h m = let w = least_cycle s e in le_antisymm (m.least (cycle s.tasks) w.is) (w.least h m.is)
