-- What rule 10 gives: the facts that proofs use of a sound set.
use mathlib.Core.Path.{◌≡◌}
use mathlib.Core.Bool.{true}
use Prim.Native.Nat.{ℕ, ◌+◌, ◌*◌, ◌/◌, ◌<◌, ◌≤◌, ◌∣◌}
use native.Mathlib.Nat.{div-mul_cancel, le-div_iff_mul-le, le_of_dvd, one-mul}
use native.Mathlib.Omega.{arith}
use lib.Dec.{leb, eqb}
use borrow.Author.Tests.{leb-true, eq-eqb}
use Rattle.vocabulary.specs.Test.{pick}
use Rattle.vocabulary.proofs.Test.{both}
use Rattle.vocabulary.specs.Least.{all}
use Rattle.vocabulary.proofs.Least.{all_at}
use Rattle.vocabulary.proofs.Multiple.{lcm_pos, lcm_left, lcm_right, lcm_dvd, lcm_of_dvd}
use Rattle.kinds.specs.declared.Key.{Key}
use Rattle.kinds.specs.declared.Task.{Task}
use Rattle.kinds.specs.Limits.{holds, rises, after, task_counts, pattern_counts, periods, runnings, offsets}
use Rattle.kinds.specs.Editions.{editions}
use Rattle.kinds.specs.Tasks.{Tasks, Patterns, Set, task_at, period, running, offset, deadline, from_task, to_task, pair_count, pairs_before, pair_first, pair_second}
use Rattle.kinds.specs.Cycle.{cycle, jobs, jobs_of, cycle_fits}
use Rattle.kinds.specs.Links.{common, reach, repeats, links}
use Rattle.kinds.specs.Sound.{attributes_fit, task_fits, pair_key, pair_fits, pattern_key, heading_fits, pattern_fits, opening_fits, sound}
use Rattle.kinds.specs.RangeLaws.{holds_at, cycle_pos, pair_key_more}
use Rattle.kinds.proofs.PatternWalk.{HeadingFacts, heading_facts, pattern_key_more}

pub record Sound (s : Set) : Type 0 where
  -- Edition, tasks and processors keep rules 3 and 4.
  pub edition : (0 < s.edition) × (s.edition ≤ 2)
  pub some_tasks : 0 < s.tasks.count
  pub few_tasks : s.tasks.count ≤ 64
  pub some_processors : 0 < s.processors
  pub few_processors : s.processors ≤ 8
  -- Each task has 1 ≤ C ≤ D ≤ T ≤ 6,000 and O < T.
  pub some_period : (i : ℕ) → i < s.tasks.count → 0 < period s.tasks i
  pub low_period : (i : ℕ) → i < s.tasks.count → period s.tasks i ≤ 6000
  pub some_running : (i : ℕ) → i < s.tasks.count → 0 < running s.tasks i
  pub running_low : (i : ℕ) → i < s.tasks.count → running s.tasks i ≤ deadline s.tasks i
  pub deadline_low : (i : ℕ) → i < s.tasks.count → deadline s.tasks i ≤ period s.tasks i
  pub offset_low : (i : ℕ) → i < s.tasks.count → offset s.tasks i < period s.tasks i
  -- The cycle H and its jobs keep rule 5.
  pub some_cycle : 0 < cycle s.tasks
  pub low_cycle : cycle s.tasks ≤ 6000
  pub few_jobs : jobs s.tasks ≤ 2048
  -- Every period divides H.
  pub divides : (i : ℕ) → i < s.tasks.count → period s.tasks i ∣ cycle s.tasks
  -- The tasks of a pattern are two tasks of the set. It has pairs, and these lie within the tables.
  pub few_patterns : s.patterns.count ≤ 64
  pub from_low : (k : ℕ) → k < s.patterns.count → from_task s.patterns k < s.tasks.count
  pub to_low : (k : ℕ) → k < s.patterns.count → to_task s.patterns k < s.tasks.count
  pub apart : (k : ℕ) → k < s.patterns.count → from_task s.patterns k ≡ to_task s.patterns k → ⊥
  pub some_pairs : (k : ℕ) → k < s.patterns.count → 0 < pair_count s.patterns k
  pub room : (k : ℕ) → k < s.patterns.count → pairs_before s.patterns k + pair_count s.patterns k ≤ 1024
  -- Patterns rise strictly: the first task does not fall, and where it stays the second rises.
  pub from_rises : (k : ℕ) → k + 1 < s.patterns.count → from_task s.patterns k ≤ from_task s.patterns (k + 1)
  pub to_rises : (k : ℕ) → k + 1 < s.patterns.count → from_task s.patterns (k + 1) ≡ from_task s.patterns k → to_task s.patterns k < to_task s.patterns (k + 1)
  -- The p of a pattern is a multiple of its two periods, and H is one of p.
  pub some_common : (k : ℕ) → k < s.patterns.count → 0 < common s.tasks s.patterns k
  pub from_divides : (k : ℕ) → k < s.patterns.count → period s.tasks (from_task s.patterns k) ∣ common s.tasks s.patterns k
  pub to_divides : (k : ℕ) → k < s.patterns.count → period s.tasks (to_task s.patterns k) ∣ common s.tasks s.patterns k
  pub whole : (k : ℕ) → k < s.patterns.count → common s.tasks s.patterns k ∣ cycle s.tasks
  -- The two numbers of a pair are within their reach: a < p/Ti, and b < p/Tj in edition 1, 2·p/Tj in edition 2.
  pub first_low : (k q : ℕ) → k < s.patterns.count → q < pair_count s.patterns k → pair_first s.patterns k q < common s.tasks s.patterns k / period s.tasks (from_task s.patterns k)
  pub second_low : (k q : ℕ) → k < s.patterns.count → q < pair_count s.patterns k → pair_second s.patterns k q < reach s.edition (common s.tasks s.patterns k) (period s.tasks (to_task s.patterns k))
  -- Pairs rise strictly within their pattern, as patterns do.
  pub first_rises : (k q : ℕ) → k < s.patterns.count → q + 1 < pair_count s.patterns k → pair_first s.patterns k q ≤ pair_first s.patterns k (q + 1)
  pub second_rises : (k q : ℕ) → k < s.patterns.count → q + 1 < pair_count s.patterns k → pair_first s.patterns k (q + 1) ≡ pair_first s.patterns k q → pair_second s.patterns k q < pair_second s.patterns k (q + 1)
  -- The links keep rule 9.
  pub few_links : links s.tasks s.patterns ≤ 4096

-- ---- what the tests say
record Rising (low : Key) (limitA limitB x y : ℕ) : Type 0 where
  first : low.first ≤ x
  first_low : x < limitA
  second : x ≡ low.first → low.second ≤ y
  second_low : y < limitB

rising : (low : Key) (limitA limitB x y : ℕ) → rises low limitA limitB x y ≡ true → Rising low limitA limitB x y
unfolding rises
rising low la lb x y e =
    let w = both e in
    let a = holds_at low.first la x w.0 in
    let b = holds_at (pick (eqb x low.first) low.second 0) lb y w.1 in
    record { first = a.0; first_low = a.1; second = λ q. rw (eq-eqb x low.first q) at b.0; second_low = b.1 }

record Attributes (t : Task) : Type 0 where
  some_period : 0 < t.period
  low_period : t.period ≤ 6000
  some_running : 0 < t.running
  running_low : t.running ≤ t.deadline
  deadline_low : t.deadline ≤ t.period
  offset_low : t.offset < t.period

attributes : (t : Task) → attributes_fit t ≡ true → Attributes t
unfolding attributes_fit
attributes t e =
    let w = both {a = holds periods t.period} e in
    let x = both {a = holds (runnings t.period) t.running} w.1 in
    let y = both {a = holds (offsets t.period) t.offset} x.1 in
    let a = holds_at 1 6001 t.period w.0 in
    let b = holds_at 1 (t.period + 1) t.running x.0 in
    let f = holds_at 0 t.period t.offset y.0 in
    let g = holds_at t.running (t.period + 1) t.deadline y.1 in
    record {
      some_period = a.0;
      low_period = omega arith;
      some_running = b.0;
      running_low = g.0;
      deadline_low = omega arith;
      offset_low = f.1;
    }

record Parts (s : Set) : Type 0 where
  opening : opening_fits s.edition s.tasks.count s.processors ≡ true
  tasks : all (task_fits s.tasks) s.tasks.count ≡ true
  cycle : cycle_fits s.tasks ≡ true
  patterns : holds pattern_counts s.patterns.count ≡ true
  each : all (pattern_fits s.edition s.tasks s.patterns) s.patterns.count ≡ true
  links : leb (links s.tasks s.patterns) 4096 ≡ true

parts : (s : Set) → sound s ≡ true → Parts s
unfolding sound
parts s e =
    let a = both {a = opening_fits s.edition s.tasks.count s.processors} e in
    let b = both {a = all (task_fits s.tasks) s.tasks.count} a.1 in
    let c = both {a = cycle_fits s.tasks} b.1 in
    let d = both {a = holds pattern_counts s.patterns.count} c.1 in
    let f = both {a = all (pattern_fits s.edition s.tasks s.patterns) s.patterns.count} d.1 in
    record { opening = a.0; tasks = b.0; cycle = c.0; patterns = d.0; each = f.0; links = f.1 }

record OpeningFacts (e n m : ℕ) : Type 0 where
  edition : (0 < e) × (e ≤ 2)
  some_tasks : 0 < n
  few_tasks : n ≤ 64
  some_processors : 0 < m
  few_processors : m ≤ 8

opening : (e n m : ℕ) → opening_fits e n m ≡ true → OpeningFacts e n m
unfolding opening_fits
opening e n m h =
    let w = both {a = holds editions e} h in
    let x = both {a = holds task_counts n} w.1 in
    let a = holds_at 1 3 e w.0 in
    let b = holds_at 1 65 n x.0 in
    let d = holds_at 1 9 m x.1 in
    record { edition = (a.0, omega arith); some_tasks = b.0; few_tasks = omega arith; some_processors = d.0; few_processors = omega arith }

cycle_low : (u : Tasks) → cycle_fits u ≡ true → (cycle u ≤ 6000) × (jobs u ≤ 2048)
unfolding cycle_fits
cycle_low u e = let w = both {a = leb (cycle u) 6000} e in (leb-true (cycle u) 6000 w.0, leb-true (jobs u) 2048 w.1)

period_divides : (u : Tasks) → ((i : ℕ) → i < u.count → 0 < period u i) → (i : ℕ) → i < u.count → period u i ∣ cycle u
unfolding cycle
period_divides u h i l = lcm_of_dvd (λ j. period u j) u.count i h l

-- A pattern that fits has a head and pairs that do.
module _ (e : ℕ) (u : Tasks) (v : Patterns) (k : ℕ) (fit : pattern_fits e u v k ≡ true) where
  head : heading_fits u.count (pattern_key v k) (from_task v k) (to_task v k) (pair_count v k) (pairs_before v k) ≡ true
  unfolding pattern_fits
  head = (both fit).0

  heading : HeadingFacts u.count (pattern_key v k) (from_task v k) (to_task v k) (pair_count v k) (pairs_before v k)
  heading = heading_facts u.count (pattern_key v k) (from_task v k) (to_task v k) (pair_count v k) (pairs_before v k) head

  heading_rising : Rising (pattern_key v k) u.count u.count (from_task v k) (to_task v k)
  unfolding heading_fits
  heading_rising = rising (pattern_key v k) u.count u.count (from_task v k) (to_task v k) (both head).0

  pair : (q : ℕ) → q < pair_count v k → Rising (pair_key v.pairs (pairs_before v k) q) (common u v k / period u (from_task v k)) (reach e (common u v k) (period u (to_task v k))) (pair_first v k q) (pair_second v k q)
  unfolding pattern_fits pair_fits
  pair q l =
      let a : ℕ = common u v k / period u (from_task v k) in
      let b : ℕ = reach e (common u v k) (period u (to_task v k)) in
      let each = (both {a = heading_fits u.count (pattern_key v k) (from_task v k) (to_task v k) (pair_count v k) (pairs_before v k)} fit).1 in
      rising (pair_key v.pairs (pairs_before v k) q) a b (pair_first v k q) (pair_second v k q)
      (all_at (pair_fits v.pairs (pairs_before v k) a b) (pair_count v k) each q l)

module _ (u : Tasks) (v : Patterns) (k : ℕ) (from : 0 < period u (from_task v k)) (to : 0 < period u (to_task v k)) where
  common_some : 0 < common u v k
  unfolding common
  common_some = lcm_pos (period u (from_task v k)) (period u (to_task v k)) from

  common_from : period u (from_task v k) ∣ common u v k
  unfolding common
  common_from = lcm_left (period u (from_task v k)) (period u (to_task v k))

  common_to : period u (to_task v k) ∣ common u v k
  unfolding common
  common_to = lcm_right (period u (from_task v k)) (period u (to_task v k)) to

  common_whole : (q : ℕ) → period u (from_task v k) ∣ q → period u (to_task v k) ∣ q → common u v k ∣ q
  unfolding common
  common_whole q = lcm_dvd (period u (from_task v k)) (period u (to_task v k)) q from to

-- The key of a pattern or a pair comes from the one before it.
after_pattern : (v : Patterns) (k n : ℕ) → Rising (pattern_key v (k + 1)) n n (from_task v (k + 1)) (to_task v (k + 1)) → Rising (after (from_task v k) (to_task v k)) n n (from_task v (k + 1)) (to_task v (k + 1))
after_pattern v k n r = rw (pattern_key_more v k) at r

after_pair : (v : Patterns) (k q a b : ℕ) → Rising (pair_key v.pairs (pairs_before v k) (q + 1)) a b (pair_first v k (q + 1)) (pair_second v k (q + 1)) → Rising (after (pair_first v k q) (pair_second v k q)) a b (pair_first v k (q + 1)) (pair_second v k (q + 1))
after_pair v k q a b r = rw (pair_key_more v.pairs (pairs_before v k) q) at r

pub sound_facts : (s : Set) → sound s ≡ true → Sound s
unfolding task_fits
sound_facts s e =
    record {
      edition = o.edition;
      some_tasks = o.some_tasks;
      few_tasks = o.few_tasks;
      some_processors = o.some_processors;
      few_processors = o.few_processors;
      some_period = λ i l. (task i l).some_period;
      low_period = λ i l. (task i l).low_period;
      some_running = λ i l. (task i l).some_running;
      running_low = λ i l. (task i l).running_low;
      deadline_low = λ i l. (task i l).deadline_low;
      offset_low = λ i l. (task i l).offset_low;
      some_cycle = cycle_pos u;
      low_cycle = (cycle_low u p.cycle).0;
      few_jobs = (cycle_low u p.cycle).1;
      divides = divides;
      few_patterns = (let w = holds_at 0 65 v.count p.patterns in omega arith);
      from_low = λ k l. (top k l).from_low;
      to_low = λ k l. (top k l).to_low;
      apart = λ k l. (top k l).apart;
      some_pairs = λ k l. (top k l).some;
      room = λ k l. (top k l).room;
      from_rises = λ k l. (next k l).first;
      to_rises = λ k l q. (let w = (next k l).second q in omega arith);
      some_common = λ k l. common_some u v k (from k l) (to k l);
      from_divides = λ k l. common_from u v k (from k l) (to k l);
      to_divides = λ k l. common_to u v k (from k l) (to k l);
      whole = λ k l. common_whole u v k (from k l) (to k l) (cycle u) (divides (from_task v k) (top k l).from_low) (divides (to_task v k) (top k l).to_low);
      first_low = λ k q l m. (pair s.edition u v k (fits k l) q m).first_low;
      second_low = λ k q l m. (pair s.edition u v k (fits k l) q m).second_low;
      first_rises = λ k q l m. (more k q l m).first;
      second_rises = λ k q l m h. (let w = (more k q l m).second h in omega arith);
      few_links = leb-true (links u v) 4096 p.links;
    }
  where
    u : Tasks
    u = s.tasks

    v : Patterns
    v = s.patterns

    p : Parts s
    p = parts s e

    o : OpeningFacts s.edition u.count s.processors
    o = opening s.edition u.count s.processors p.opening

    task : (i : ℕ) → i < u.count → Attributes (task_at u.attributes i)
    task i l = attributes (task_at u.attributes i) (all_at (task_fits u) u.count p.tasks i l)

    divides : (i : ℕ) → i < u.count → period u i ∣ cycle u
    divides = period_divides u (λ i l. (task i l).some_period)

    fits : (k : ℕ) → k < v.count → pattern_fits s.edition u v k ≡ true
    fits k l = all_at (pattern_fits s.edition u v) v.count p.each k l

    top : (k : ℕ) → k < v.count → HeadingFacts u.count (pattern_key v k) (from_task v k) (to_task v k) (pair_count v k) (pairs_before v k)
    top k l = heading s.edition u v k (fits k l)

    from : (k : ℕ) → k < v.count → 0 < period u (from_task v k)
    from k l = (task (from_task v k) (top k l).from_low).some_period

    to : (k : ℕ) → k < v.count → 0 < period u (to_task v k)
    to k l = (task (to_task v k) (top k l).to_low).some_period

    next : (k : ℕ) → k + 1 < v.count → Rising (after (from_task v k) (to_task v k)) u.count u.count (from_task v (k + 1)) (to_task v (k + 1))
    next k l = after_pattern v k u.count (heading_rising s.edition u v (k + 1) (fits (k + 1) l))

    more : (k q : ℕ) → k < v.count → q + 1 < pair_count v k → Rising (after (pair_first v k q) (pair_second v k q)) (common u v k / period u (from_task v k)) (reach s.edition (common u v k) (period u (to_task v k))) (pair_first v k (q + 1)) (pair_second v k (q + 1))
    more k q l m = after_pair v k q (common u v k / period u (from_task v k)) (reach s.edition (common u v k) (period u (to_task v k))) (pair s.edition u v k (fits k l) (q + 1) m)

-- ---- what follows
-- Whole numbers of jobs, and of turns of a pattern, make up the cycle.
module _ (s : Set) (f : Sound s) where
  pub jobs_fill : (i : ℕ) → i < s.tasks.count → jobs_of s.tasks i * period s.tasks i ≡ cycle s.tasks
  unfolding jobs_of
  jobs_fill i l = div-mul_cancel (period s.tasks i) (f.divides i l)

  pub some_jobs : (i : ℕ) → i < s.tasks.count → 0 < jobs_of s.tasks i
  unfolding jobs_of
  some_jobs i l = (le-div_iff_mul-le {x = 1} {y = cycle s.tasks} (f.some_period i l)).1 (rw one-mul (le_of_dvd f.some_cycle (f.divides i l)))

  pub repeats_fill : (k : ℕ) → k < s.patterns.count → repeats s.tasks s.patterns k * common s.tasks s.patterns k ≡ cycle s.tasks
  unfolding repeats
  repeats_fill k l = div-mul_cancel (common s.tasks s.patterns k) (f.whole k l)

  pub some_repeats : (k : ℕ) → k < s.patterns.count → 0 < repeats s.tasks s.patterns k
  unfolding repeats
  some_repeats k l = (le-div_iff_mul-le {x = 1} {y = cycle s.tasks} (f.some_common k l)).1 (rw one-mul (le_of_dvd f.some_cycle (f.whole k l)))
