-- The links of one cycle speak for all: the n-th link's jobs are released a whole number of cycles after those of a link of the first cycle.
use Rattle.std.specs.Prelude.{◌≡◌, ℕ, ◌+◌, ◌*◌, ◌%◌, ◌/◌, ◌<◌}
use Rattle.std.proofs.Common.{ap, div-add-mod', arith}
use Rattle.std.specs.Int.{◌∣◌}
use Rattle.std.proofs.Math.Nat.{div-mul_cancel}
use Rattle.kinds.specs.Tasks.{Set, period, offset, from_task, to_task, pair_first, pair_second}
use Rattle.kinds.specs.Cycle.{cycle}
use Rattle.kinds.specs.Jobs.{release}
use Rattle.kinds.specs.Links.{common, link_from, link_to, repeats}
use Rattle.kinds.proofs.SoundFacts.{Sound}

-- job a + n * (p / t) of a task with period t, where p divides h
spread : (o t h p a n : ℕ) → t ∣ p → p ∣ h → o + (a + n * (p / t)) * t ≡ o + (a + n % (h / p) * (p / t)) * t + n / (h / p) * h
spread o t h p a n d e =
    let c : ℕ = h / p in
    omega (
      arith,
      ap (λ (x : ℕ). n * x) (div-mul_cancel t d),
      ap (λ (x : ℕ). n % c * x) (div-mul_cancel t d),
      ap (λ (x : ℕ). x * p) (div-add-mod' n c),
      ap (λ (x : ℕ). n / c * x) (div-mul_cancel p e),
    )

module _ (s : Set) (f : Sound s) (k : ℕ) (lk : k < s.patterns.count) where
  -- the first job of a link, from that of the link of the first cycle that it repeats
  pub from_again : (q n : ℕ)
      → release s.tasks (from_task s.patterns k) (link_from s.tasks s.patterns k q n)
      ≡ release s.tasks (from_task s.patterns k) (link_from s.tasks s.patterns k q (n % repeats s.tasks s.patterns k)) + n / repeats s.tasks s.patterns k * cycle s.tasks
  unfolding release link_from repeats
  from_again q n =
      spread (offset s.tasks (from_task s.patterns k)) (period s.tasks (from_task s.patterns k)) (cycle s.tasks)
      (common s.tasks s.patterns k)
      (pair_first s.patterns k q) n (f.from_divides k lk) (f.whole k lk)

  -- and the second
  pub to_again : (q n : ℕ)
      → release s.tasks (to_task s.patterns k) (link_to s.tasks s.patterns k q n)
      ≡ release s.tasks (to_task s.patterns k) (link_to s.tasks s.patterns k q (n % repeats s.tasks s.patterns k)) + n / repeats s.tasks s.patterns k * cycle s.tasks
  unfolding release link_to repeats
  to_again q n =
      spread (offset s.tasks (to_task s.patterns k)) (period s.tasks (to_task s.patterns k)) (cycle s.tasks) (common s.tasks s.patterns k)
      (pair_second s.patterns k q) n (f.to_divides k lk) (f.whole k lk)
