-- Laws of the definitions in specs/Blocks.antt.
use Rattle.std.specs.Prelude.{◌≡◌, true, false, ◌⊎◌, ltb}
use Rattle.std.proofs.Common.{ap, inl, inr, le-div_iff_mul-le, one-mul, div-lt_iff_lt-mul, arith}
use Prim.Native.Nat.{ℕ, ◌+◌, ◌-◌, ◌*◌, ◌/◌, ◌<◌, ◌≤◌, ◌∣◌}
use Rattle.std.proofs.Math.Nat.{le_of_dvd, div-mul_cancel, div-eq_of_eq-mul_left, add-mul-div_right}
use borrow.Author.Tests.{lt-ltb, le-ltb}
use Rattle.vocabulary.proofs.Test.{and_false, lt_or_le, clash}
use Rattle.kinds.specs.Editions.{rounds_of}
use Rattle.kinds.specs.Tasks.{Tasks, Patterns, Set, period, from_task, to_task, pair_count, pair_second}
use Rattle.kinds.specs.Cycle.{cycle, jobs_of}
use Rattle.kinds.specs.Links.{common, link_from, link_to, repeats, inner}
use Rattle.kinds.specs.RangeLaws.{rounds_low}
use Rattle.kinds.proofs.SoundFacts.{Sound}
use Rattle.laws.proofs.Order.{from_job_low}
use Rattle.laws.specs.Blocks.{round_jobs, round_of, NextBlock}

-- p goes into h, and t into p: the jobs in h are those of its rounds
pub jobs_in_rounds : (h p t : ℕ) → 0 < t → t ∣ p → p ∣ h → h / t ≡ h / p * (p / t)
jobs_in_rounds h p t some d e =
    div-eq_of_eq-mul_left some (omega (arith, ap (λ (x : ℕ). h / p * x) (div-mul_cancel t d), div-mul_cancel p e))

-- job b + n * c is one of the first m * c exactly when n and the rounds in b are fewer than m
turn_is : (b c m n : ℕ) → 0 < c → ((n + b / c < m) → (b + n * c < m * c)) × ((b + n * c < m * c) → (n + b / c < m))
turn_is b c m n some =
    let e : (b + n * c) / c ≡ b / c + n = add-mul-div_right b n some in
    let i = div-lt_iff_lt-mul {k = c} {x = b + n * c} {y = m} some in
    (λ l. i.0 (omega (arith, e)), λ l. let h = i.1 l in omega (arith, e))

module _ (s : Set) (f : Sound s) (k : ℕ) (lk : k < s.patterns.count) where
  abbrev u : Tasks
  u = s.tasks

  abbrev v : Patterns
  v = s.patterns

  some_to : 0 < period u (to_task v k)
  some_to = f.some_period (to_task v k) (f.to_low k lk)

  pub some_round : 0 < round_jobs s.tasks s.patterns k
  some_round =
      (le-div_iff_mul-le {x = 1} {y = common u v k} some_to).1 (rw one-mul (le_of_dvd (f.some_common k lk) (f.to_divides k lk)))

  pub cycle_rounds : jobs_of s.tasks (to_task s.patterns k) ≡ repeats s.tasks s.patterns k * round_jobs s.tasks s.patterns k
  unfolding jobs_of repeats
  cycle_rounds = jobs_in_rounds (cycle u) (common u v k) (period u (to_task v k)) some_to (f.to_divides k lk) (f.whole k lk)

  module _ (q : ℕ) (lq : q < pair_count s.patterns k) where
    -- A pair's second number leads over as many rounds as its edition allows,
    pub round_known : round_of s.tasks s.patterns k q < rounds_of s.edition
    unfolding round_of
    round_known = (div-lt_iff_lt-mul some_round).1 (f.second_low k q lk lq)

    -- so into the same or into the next.
    pub round_low : round_of s.tasks s.patterns k q ≤ 1
    round_low = omega (arith, round_known, rounds_low s.edition)

    module _ (n : ℕ) where
      to_is : (n + round_of u v k q < repeats u v k → link_to u v k q n < jobs_of u (to_task v k))
          × (link_to u v k q n < jobs_of u (to_task v k) → n + round_of u v k q < repeats u v k)
      unfolding link_to round_of
      to_is = rw cycle_rounds (turn_is (pair_second v k q) (round_jobs u v k) (repeats u v k) n some_round)

      past : repeats u v k ≤ n + round_of u v k q → jobs_of u (to_task v k) ≤ link_to u v k q n
      past l = by (lt_or_le (link_to u v k q n) (jobs_of u (to_task v k)))
        where
          by : (link_to u v k q n < jobs_of u (to_task v k)) ⊎ (jobs_of u (to_task v k) ≤ link_to u v k q n) → jobs_of u (to_task v k) ≤ link_to u v k q n
          by (inl h) = let w = to_is.1 h in absurd (omega arith)
          by (inr h) = h

      -- ==== A link lies within the block as long as the round of its second job is one of the cycle,
      pub stays : n + round_of s.tasks s.patterns k q < repeats s.tasks s.patterns k → inner s.tasks s.patterns k q n ≡ true
      unfolding inner
      stays l = rw (lt-ltb _ _ (from_job_low s f k q n lk lq (omega arith)), lt-ltb _ _ (to_is.0 l))

      -- and leaves it from then on.
      pub leaves : repeats s.tasks s.patterns k ≤ n + round_of s.tasks s.patterns k q → inner s.tasks s.patterns k q n ≡ false
      unfolding inner
      leaves l = rw (le-ltb (link_to u v k q n) (jobs_of u (to_task v k)) (past l)) (and_false (ltb (link_from u v k q n) (jobs_of u (from_task v k))))

      -- ==== So where the edition reaches over one round, every link of a cycle lies within the block,
      pub first_stays : rounds_of s.edition ≡ 1 → n < repeats s.tasks s.patterns k → inner s.tasks s.patterns k q n ≡ true
      first_stays e l = stays (omega (arith, round_known))

      late : inner u v k q n ≡ false → repeats u v k ≤ n + round_of u v k q
      late e = by (lt_or_le (n + round_of u v k q) (repeats u v k))
        where
          by : (n + round_of u v k q < repeats u v k) ⊎ (repeats u v k ≤ n + round_of u v k q) → repeats u v k ≤ n + round_of u v k q
          by (inl h) = clash (stays h) e
          by (inr h) = h

      -- ==== and in every edition only the last of a pair's can leave it,
      pub only_last_leaves : n < repeats s.tasks s.patterns k → inner s.tasks s.patterns k q n ≡ false → n + 1 ≡ repeats s.tasks s.patterns k
      only_last_leaves l e = omega (arith, late e, round_low)

      before : n < repeats u v k → link_to u v k q n < jobs_of u (to_task v k) + jobs_of u (to_task v k)
      unfolding link_to round_of
      before l =
          let m : ℕ = repeats u v k in
          let w = (turn_is (pair_second v k q) (round_jobs u v k) (m + m) n some_round).0 (omega (arith, round_low)) in
          omega (arith, cycle_rounds, w)

      -- ==== for the next, and not further.
      pub leads_on : n < repeats s.tasks s.patterns k → inner s.tasks s.patterns k q n ≡ false → NextBlock s.tasks s.patterns k q n
      leads_on l e =
          let a = past (late e) in
          record { job = link_to u v k q n - jobs_of u (to_task v k); low = omega (arith, before l); is = omega arith }
