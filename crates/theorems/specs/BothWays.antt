-- Two tasks that are linked both ways, one of the two ways into the next round, make no cycle: every link leads to the other task in the same round,
-- or into the next.
use Rattle.std.specs.Prelude.{◌≡◌, refl, ◌⊎◌, eqb, Some}
use Rattle.std.proofs.Common.{ap, ap₂, subst, ⊎_elim, eq-eqb, ne_eqb}
use Prim.Native.Nat.{ℕ, ◌+◌, ◌*◌, ◌/◌, ◌<◌}
use Rattle.std.proofs.Math.Nat.{add-mul-div_right, div-eq_of_lt}
use native.Mathlib.Omega.{arith}
use Rattle.vocabulary.specs.Test.{bit}
use Rattle.vocabulary.proofs.Test.{clash}
use Rattle.vocabulary.proofs.Multiple.{lcm_comm}
use Rattle.graph.specs.Reach.{Free}
use Rattle.graph.proofs.Reach.{loops_iff}
use Rattle.graph.proofs.Reach.{free_by}
use Rattle.kinds.specs.Tasks.{Tasks, Patterns, Set, period, from_task, to_task, pair_count, pair_first, pair_second}
use Rattle.kinds.specs.Cycle.{jobs_of}
use Rattle.kinds.specs.Jobs.{number_of_job, task_of_job, job_of_job}
use Rattle.kinds.specs.Links.{common, link_from, link_to}
use Rattle.kinds.proofs.SoundFacts.{Sound}
use Rattle.laws.proofs.Order.{task_of_number, job_of_number, number_low}
use Rattle.laws.specs.Blocks.{round_of}
use Rattle.laws.proofs.Blocks.{some_round}
use Rattle.network.specs.Network.{network}
use Rattle.network.specs.NetworkLaws.{each_made, inner_low, inside_network}
use Rattle.screen.specs.declared.Finding.TheVariants as finding
use Rattle.screen.specs.Findings.{finding_of}
use Rattle.theorems.specs.ScreenTrue.{Finds, finding_true}

module _ (s : Set) (f : Sound s) (k q n : ℕ) (lk : k < s.patterns.count) (lq : q < pair_count s.patterns k) where
  -- ---- the rounds of a link's jobs: the n-th link begins in round n, and ends there or in the next
  from_round : link_from s.tasks s.patterns k q n / (common s.tasks s.patterns k / period s.tasks (from_task s.patterns k)) ≡ n
  unfolding link_from
  from_round =
      let c : ℕ = common s.tasks s.patterns k / period s.tasks (from_task s.patterns k) in
      let l = f.first_low k q lk lq in
      let some : 0 < c = omega arith in
      omega (arith, add-mul-div_right (pair_first s.patterns k q) n some, div-eq_of_lt l)

  to_round : link_to s.tasks s.patterns k q n / (common s.tasks s.patterns k / period s.tasks (to_task s.patterns k))
      ≡ round_of s.tasks s.patterns k q + n
  unfolding link_to round_of
  to_round = add-mul-div_right (pair_second s.patterns k q) n (some_round s f k lk)

-- Pattern `home` leads from one task to the other, pattern `on` back, and there are no others. Every pair of `on` leads into the next round.
module _ (s : Set) (f : Sound s) (home on : ℕ) (lh : home < s.patterns.count) (lo : on < s.patterns.count)
    (no_other : (k : ℕ) → k < s.patterns.count → (k ≡ home) ⊎ (k ≡ on))
    (out : from_task s.patterns on ≡ to_task s.patterns home) (back : to_task s.patterns on ≡ from_task s.patterns home)
    (onward : (q : ℕ) → q < pair_count s.patterns on → 0 < round_of s.tasks s.patterns on q) where
  abbrev u : Tasks
  u = s.tasks

  abbrev v : Patterns
  v = s.patterns

  abbrev whole : ℕ
  whole = common u v home

  same_whole : common u v on ≡ whole
  unfolding common
  same_whole =
      rw (out, back)
      (lcm_comm (period u (to_task v home)) (period u (from_task v home)) (f.some_period (to_task v home) (f.to_low home lh))
      (f.some_period (from_task v home) (f.from_low home lh)))

  -- how far on a job of a task is: twice its round, and one more in the task that `home` leads to
  abbrev place : ℕ → ℕ → ℕ
  place i x = 2 * (x / (whole / period u i)) + bit (eqb i (to_task v home))

  abbrev far : ℕ → ℕ
  far x = place (task_of_job u x) (job_of_job u x)

  far_is : (i x : ℕ) → i < u.count → x < jobs_of u i → far (number_of_job u i x) ≡ place i x
  far_is i x li lx = ap₂ (λ (j y : ℕ). place j y) (task_of_number u i x li lx) (job_of_number u i x li lx)

  module _ (k q n : ℕ) (lk : k < v.count) (lq : q < pair_count v k) (is : common u v k ≡ whole) where
    from_place : place (from_task v k) (link_from u v k q n) ≡ 2 * n + bit (eqb (from_task v k) (to_task v home))
    from_place =
        ap (λ (x : ℕ). 2 * x + bit (eqb (from_task v k) (to_task v home))) (rw is at (from_round s f k q n lk lq))

    to_place : place (to_task v k) (link_to u v k q n) ≡ 2 * (round_of u v k q + n) + bit (eqb (to_task v k) (to_task v home))
    to_place =
        ap (λ (x : ℕ). 2 * x + bit (eqb (to_task v k) (to_task v home))) (rw is at (to_round s f k q n lk lq))

  side_from : bit (eqb (from_task v home) (to_task v home)) ≡ 0
  side_from = ap bit (ne_eqb (from_task v home) (to_task v home) (f.apart home lh))

  side_to : bit (eqb (to_task v home) (to_task v home)) ≡ 1
  side_to = ap bit (eq-eqb (to_task v home) (to_task v home) refl)

  on_from : bit (eqb (from_task v on) (to_task v home)) ≡ 1
  on_from = ap bit (eq-eqb (from_task v on) (to_task v home) out)

  grows_home : (q n : ℕ) → q < pair_count v home → place (from_task v home) (link_from u v home q n) < place (to_task v home) (link_to u v home q n)
  grows_home q n lq = omega (arith, from_place home q n lh lq refl, to_place home q n lh lq refl, side_from, side_to)

  grows_on : (q n : ℕ) → q < pair_count v on → place (from_task v on) (link_from u v on q n) < place (to_task v on) (link_to u v on q n)
  grows_on q n lq = omega (arith, from_place on q n lo lq same_whole, to_place on q n lo lq same_whole, on_from, onward q lq)

  grows : (k q n : ℕ) → k < v.count → q < pair_count v k → place (from_task v k) (link_from u v k q n) < place (to_task v k) (link_to u v k q n)
  grows k q n lk lq = ⊎_elim (λ e. at_home k e lq) (λ e. at_on k e lq) (no_other k lk)
    where
      at_home : (k : ℕ) → k ≡ home → q < pair_count v k → place (from_task v k) (link_from u v k q n) < place (to_task v k) (link_to u v k q n)
      at_home k e l = rw e (grows_home q n (rw e at l))

      at_on : (k : ℕ) → k ≡ on → q < pair_count v k → place (from_task v k) (link_from u v k q n) < place (to_task v k) (link_to u v k q n)
      at_on k e l = rw e (grows_on q n (rw e at l))

  -- ==== Then no job lies on a cycle,
  pub both_ways_free : Free (network s.tasks s.patterns)
  both_ways_free =
      free_by (network u v) far (λ x l.
      let w = each_made u v x l in
      let i = inner_low u v w.pattern w.pair w.turn w.within in
      let a = far_is (from_task v w.pattern) (link_from u v w.pattern w.pair w.turn) (f.from_low w.pattern w.pattern_low) i.0 in
      let b = far_is (to_task v w.pattern) (link_to u v w.pattern w.pair w.turn) (f.to_low w.pattern w.pattern_low) i.1 in
      omega (arith, ap far w.from_is, ap far w.to_is, a, b, grows w.pattern w.pair w.turn w.pattern_low w.pair_low))

  -- ==== and the screen does not answer 13.
  pub both_ways_not_found : (i k : ℕ) → finding_of s ≡ Some (finding.Cycle i k) → ⊥
  unfolding Finds network
  both_ways_not_found i k e =
      let w = (subst (Finds s) e (finding_true s)).lowest in
      let x : ℕ = number_of_job u i k in
      clash ((loops_iff (network u v) x (inside_network s f)).1 w.is) (both_ways_free x (number_low u i k w.task w.job))
