-- Two sets that agree on what counts get the same finding and the same adjusted times.
use Rattle.std.specs.Prelude.{◌≡◌, refl, Bool, true, false, ◌||◌, not, List, [], ◌∷◌, ◌++◌, eqb, ℤ, pos, ◌-ℤ◌, length, Some, Err}
use Rattle.std.proofs.Common.{sym, ◌∙◌, arith}
use Rattle.std.proofs.Math.Path.{ap, ap₂}
use Rattle.std.proofs.Math.Bool.{◌&&◌}
use Prim.Native.Nat.{ℕ, zero, suc, ◌+◌, ◌*◌, ◌<◌}
use Rattle.std.proofs.Math.Dec.{ltb}
use Rattle.std.specs.Int.Signed.{lt_z}
use Rattle.std.proofs.lemmas.Bool.{not-false}
use Rattle.vocabulary.specs.Test.{pick}
use Rattle.vocabulary.proofs.First.{first_same}
use Rattle.vocabulary.specs.Least.{least}
use Rattle.vocabulary.proofs.Least.{least_same}
use Rattle.vocabulary.specs.Total.{total}
use Rattle.vocabulary.proofs.Total.{total_same}
use Rattle.vocabulary.specs.Table.{table, join, gather}
use Rattle.vocabulary.proofs.Lists.{join_same}
use Rattle.graph.specs.Graph.{Graph, LinksInside, loops}
use Rattle.graph.specs.Longest.{rounds}
use Rattle.graph.proofs.Listed.{rounds_alike}
use Rattle.graph.specs.Soonest as soonest
use Rattle.kinds.specs.Tasks.{Tasks, Patterns, Set, running, from_task, to_task, pair_count}
use Rattle.kinds.specs.Cycle.{jobs_of, jobs}
use Rattle.kinds.specs.Jobs.{release, due, number_of_job, task_of_job, job_of_job}
use Rattle.kinds.specs.Links.{link_from, link_to, repeats, inner}
use Rattle.kinds.specs.Sound.{sound}
use Rattle.kinds.proofs.SoundFacts.{Sound, sound_facts}
use Rattle.kinds.proofs.WhatCounts.{Agree, cycle_agree, jobs_of_agree, jobs_agree, sound_agree}
use Rattle.laws.proofs.Order.{task_low}
use Rattle.network.specs.Network.{link_of, pair_links, pattern_links, cycle_links, link_starts, link_ends, network}
use Rattle.network.specs.NetworkLaws.{jobs_of_network, inside_network}
use Rattle.network.specs.Times.{own_release, own_due, own_running, release_by, adjusted_release, adjusted_deadline}
use Rattle.network.specs.Causes.{on_cycle, load, room, tight_by, tight, lowest_cycle, lowest_tight, releases_of, deadlines_of}
use Rattle.network.specs.JobTimes.{table_same}
use Rattle.screen.specs.declared.Finding.TheVariants as finding
use Rattle.screen.specs.Answers.{Adjusted}
use Rattle.screen.specs.declared.Unadjusted.TheVariants as unadjusted
use Rattle.screen.specs.Answers.{written}
use Rattle.screen.specs.Findings.{screen_rules, finding_by, finding_of, adjust_rules, adjusted_of, releases_left, deadlines_left}
use Rattle.screen.proofs.Order.{unsound_set}
use Rattle.theorems.specs.SameTasks.{same_running, same_release, same_due, same_task, same_job, same_number, same_from, same_to}
use Rattle.theorems.specs.SameTasks.{same_pairs, same_repeats, same_jobs_from, same_jobs_to, same_link_from, same_link_to}

-- ---- gatherings, and deadlines in rounds, that agree where it counts
gather_same : {A : Type 0} (f g : ℕ → A) (p r : ℕ → Bool) (n : ℕ) → ((k : ℕ) → k < n → f k ≡ g k) → ((k : ℕ) → k < n → p k ≡ r k)
    → gather f p n ≡ gather g r n
unfolding gather
gather_same f g p r zero e h = refl
gather_same {A} f g p r (suc n) e h =
    ap₂ ◌++◌ (gather_same f g p r n (λ k l. e k (omega arith)) (λ k l. h k (omega arith)))
    (ap₂ (λ (b : Bool) (x : A). pick b (x ∷ []) []) (h n (omega arith)) (e n (omega arith)))

fewest_same : (p : ℕ → Bool) (f h : ℕ → ℤ) (a b : ℤ) (n : ℕ) → a ≡ b → ((k : ℕ) → k < n → f k ≡ h k) → soonest.fewest p f a n ≡ soonest.fewest p h b n
unfolding soonest.fewest
fewest_same p f h a b zero e g = e
fewest_same p f h a b (suc n) e g =
    let r = fewest_same p f h a b n e (λ k l. g k (omega arith)) in
    ap₂ (λ (x y : ℤ). pick (p n) (soonest.min_z x y) x) r (g n (omega arith))

soonest_same : (g : Graph) → LinksInside g → (d d' c c' : ℕ → ℕ) → ((x : ℕ) → x < g.n → d x ≡ d' x) → ((x : ℕ) → x < g.n → c x ≡ c' x)
    → (s x : ℕ) → x < g.n → soonest.soonest g d c s x ≡ soonest.soonest g d' c' s x
unfolding soonest.soonest soonest.due
soonest_same g i d d' c c' a b zero x l = ap pos (a x l)
soonest_same g i d d' c c' a b (suc s) x l =
    fewest_same (λ k. eqb (g.from k) x) _ _ _ _ g.e (ap pos (a x l))
    (λ k h. ap₂ (λ (y : ℤ) (z : ℕ). y -ℤ pos z) (soonest_same g i d d' c c' a b s (g.to k) (i.ends k h)) (b (g.to k) (i.ends k h)))

module _ (s t : Set) (g : Agree s t) (f : Sound s) where
  abbrev u : Tasks
  u = s.tasks

  abbrev w : Tasks
  w = t.tasks

  abbrev v : Patterns
  v = s.patterns

  abbrev z : Patterns
  z = t.patterns

  -- ---- the links between the jobs
  module _ (k : ℕ) (l : k < v.count) where
    same_link : (q n : ℕ) → q < pair_count v k → link_of u v k q n ≡ link_of w z k q n
    same_link q n h =
        ap₂ (λ (a b : ℕ). record { from = a; to = b })
        (same_number s t g (from_task v k) (link_from u v k q n) (omega (arith, f.from_low k l))
        ∙ ap₂ (number_of_job w) (same_from s t g k l) (same_link_from s t g f k l q h n))
        (same_number s t g (to_task v k) (link_to u v k q n) (omega (arith, f.to_low k l))
        ∙ ap₂ (number_of_job w) (same_to s t g k l) (same_link_to s t g f k l q h n))

    same_inner : (q n : ℕ) → q < pair_count v k → inner u v k q n ≡ inner w z k q n
    unfolding inner
    same_inner q n h =
        ap₂ ◌&&◌ (ap₂ ltb (same_link_from s t g f k l q h n) (same_jobs_from s t g f k l))
        (ap₂ ltb (same_link_to s t g f k l q h n) (same_jobs_to s t g f k l))

    same_pair_links : (q : ℕ) → q < pair_count v k → pair_links u v k q ≡ pair_links w z k q
    unfolding pair_links
    same_pair_links q h =
        gather_same (link_of u v k q) (link_of w z k q) (inner u v k q) (inner w z k q) (repeats u v k) (λ n m. same_link q n h) (λ n m. same_inner q n h)
        ∙ ap (gather (link_of w z k q) (inner w z k q)) (same_repeats s t g f k l)

    same_pattern_links : pattern_links u v k ≡ pattern_links w z k
    unfolding pattern_links
    same_pattern_links = join_same (pair_links u v k) (pair_links w z k) (pair_count v k) same_pair_links ∙ ap (join (pair_links w z k)) (same_pairs s t g k l)

  same_links : cycle_links u v ≡ cycle_links w z
  unfolding cycle_links
  same_links = join_same (pattern_links u v) (pattern_links w z) v.count same_pattern_links ∙ ap (join (pattern_links w z)) g.pattern_count

  same_network : network u v ≡ network w z
  unfolding network link_starts link_ends
  same_network = rw (same_links, jobs_agree s t g)

  -- ---- 13 and 14
  same_cycle : lowest_cycle s ≡ lowest_cycle t
  unfolding on_cycle
  same_cycle =
      least_same (on_cycle u v) (on_cycle w z) (jobs u) (λ x l. ap (λ (h : Graph). loops h x) same_network) ∙ ap (least (on_cycle w z)) (jobs_agree s t g)

  same_load : load u ≡ load w
  unfolding load
  same_load =
      total_same (λ i. running u i * jobs_of u i) (λ i. running w i * jobs_of w i) u.count
      (λ i l. ap₂ ◌*◌ (same_running s t g i l) (jobs_of_agree s t g i l))
      ∙ ap (total (λ i. running w i * jobs_of w i)) g.task_count

  same_room : room s ≡ room t
  unfolding room
  same_room = ap₂ ◌*◌ g.processors (cycle_agree s t g)

  -- ---- own times, and adjusted ones
  module _ (x : ℕ) (l : x < jobs u) where
    own_release_lem : own_release u x ≡ own_release w x
    unfolding own_release
    own_release_lem = same_release s t g (task_of_job u x) (job_of_job u x) (task_low u x l) ∙ ap₂ (release w) (same_task s t g x) (same_job s t g x)

    own_due_lem : own_due u x ≡ own_due w x
    unfolding own_due
    own_due_lem = same_due s t g (task_of_job u x) (job_of_job u x) (task_low u x l) ∙ ap₂ (due w) (same_task s t g x) (same_job s t g x)

    own_running_lem : own_running u x ≡ own_running w x
    unfolding own_running
    own_running_lem = same_running s t g (task_of_job u x) (task_low u x l) ∙ ap (λ (i : ℕ). running w i) (same_task s t g x)

  low_job : (x : ℕ) → x < (network u v).n → x < jobs u
  low_job x l = rw jobs_of_network at l

  module _ (x : ℕ) (l : x < jobs u) where
    same_adjusted_release : adjusted_release u v x ≡ adjusted_release w z x
    unfolding release_by
    same_adjusted_release =
        rounds_alike (network u v) (inside_network s f) (own_release u) (own_release w) (own_running u) (own_running w) (λ y h. own_release_lem y (low_job y h))
        (λ y h. own_running_lem y (low_job y h)) (network u v).n x (rw jobs_of_network l)
        ∙ ap (λ (h : Graph). rounds h (own_release w) (own_running w) h.n x) same_network

    same_adjusted_deadline : adjusted_deadline u v x ≡ adjusted_deadline w z x
    unfolding adjusted_deadline
    same_adjusted_deadline =
        soonest_same (network u v) (inside_network s f) (own_due u) (own_due w) (own_running u) (own_running w) (λ y h. own_due_lem y (low_job y h))
        (λ y h. own_running_lem y (low_job y h)) (network u v).n x (rw jobs_of_network l)
        ∙ ap (λ (h : Graph). soonest.soonest h (own_due w) (own_running w) h.n x) same_network

    same_tight : tight u v x ≡ tight w z x
    unfolding tight_by
    same_tight =
        ap₂ (λ (d : ℤ) (r : ℕ). lt_z d (pos r)) same_adjusted_deadline (ap₂ ◌+◌ same_adjusted_release (own_running_lem x l))

  same_lowest_tight : lowest_tight s ≡ lowest_tight t
  same_lowest_tight = least_same (tight u v) (tight w z) (jobs u) same_tight ∙ ap (least (tight w z)) (jobs_agree s t g)

  same_releases : releases_of s ≡ releases_of t
  same_releases =
      table_same (λ x. pos (adjusted_release u v x)) (λ x. pos (adjusted_release w z x)) (jobs u) (λ x l. ap pos (same_adjusted_release x l))
      ∙ ap (table (λ x. pos (adjusted_release w z x))) (jobs_agree s t g)

  same_deadlines : deadlines_of s ≡ deadlines_of t
  same_deadlines =
      table_same (adjusted_deadline u v) (adjusted_deadline w z) (jobs u) same_adjusted_deadline ∙ ap (table (adjusted_deadline w z)) (jobs_agree s t g)

  -- ---- the evidence of 13 and 15
  named : {A : Type 0} (answer : ℕ → ℕ → A) (x y : ℕ) → x ≡ y → answer (task_of_job u x) (job_of_job u x) ≡ answer (task_of_job w y) (job_of_job w y)
  named {A} answer x y e =
      ap₂ answer (same_task s t g x) (same_job s t g x) ∙ ap (λ (j : ℕ). answer (task_of_job w j) (job_of_job w j)) e

-- ==== Entries beyond the counts count for nothing: sets that agree on the counts and on the entries within them get the same finding,
pub same_finding_of : (s t : Set) → Agree s t → finding_of s ≡ finding_of t
unfolding finding_by screen_rules
same_finding_of s t g =
    first_same _ _ _ _ _ (ap not (sound_agree s t g)) (λ e. refl)
    (λ e.
    let f = sound_facts s (not-false (sound s) e) in
    first_same _ _ _ _ _ (ap₂ ltb (same_cycle s t g f) (jobs_agree s t g))
    (λ a. named s t g f (λ i k. Some (finding.Cycle i k)) (lowest_cycle s) (lowest_cycle t) (same_cycle s t g f))
    (λ a.
    first_same _ _ _ _ _ (ap₂ ltb (same_room s t g f) (same_load s t g f))
    (λ b. ap₂ (λ a c. Some (finding.Overload a c)) (same_load s t g f) (same_room s t g f))
    (λ b.
    first_same _ _ _ _ _ (ap₂ ltb (same_lowest_tight s t g f) (jobs_agree s t g))
    (λ c. named s t g f (λ i k. Some (finding.TooTight i k)) (lowest_tight s) (lowest_tight t) (same_lowest_tight s t g f)) (λ c. refl))))

-- ==== the same answer from the call for adjusted times,
pub same_adjusted : (s t : Set) → Agree s t → (p q : ℕ) → adjusted_of s p q ≡ adjusted_of t p q
unfolding adjusted_of adjust_rules
same_adjusted s t g p q =
    first_same _ _ _ _ _ (ap not (sound_agree s t g)) (λ e. refl)
    (λ e.
    let f = sound_facts s (not-false (sound s) e) in
    first_same _ _ _ _ _ (ap (λ (n : ℕ). not (eqb p n) || not (eqb q n)) (jobs_agree s t g)) (λ a. refl)
    (λ a.
    first_same _ _ _ _ _ (ap₂ ltb (same_cycle s t g f) (jobs_agree s t g))
    (λ b. named s t g f (λ i k. Err (unadjusted.Cycle i k)) (lowest_cycle s) (lowest_cycle t) (same_cycle s t g f)) (λ b. refl)))

-- what a call leaves in a buffer: the times of a sound set, or what was there
left_same : (s t : Set) → Agree s t → (p q : ℕ) (old : List ℤ) (times : Set → List ℤ) → (Sound s → times s ≡ times t)
    → pick (written (adjusted_of s p q)) (times s) old ≡ pick (written (adjusted_of t p q)) (times t) old
left_same s t g p q old times h = by (sound s) refl
  where
    by : (b : Bool) → sound s ≡ b → pick (written (adjusted_of s p q)) (times s) old ≡ pick (written (adjusted_of t p q)) (times t) old
    by true e = ap₂ (λ (a : Adjusted) (xs : List ℤ). pick (written a) xs old) (same_adjusted s t g p q) (h (sound_facts s e))
    by false e = rw (← unsound_set s p q e, ← unsound_set t p q (sym (sound_agree s t g) ∙ e))

-- ==== and the same in both buffers.
pub same_releases_left : (s t : Set) → Agree s t → (r d : List ℤ) → releases_left s r d ≡ releases_left t r d
unfolding releases_left
same_releases_left s t g r d = left_same s t g (length r) (length d) r (λ x. releases_of x) (same_releases s t g)

pub same_deadlines_left : (s t : Set) → Agree s t → (r d : List ℤ) → deadlines_left s r d ≡ deadlines_left t r d
unfolding deadlines_left
same_deadlines_left s t g r d = left_same s t g (length r) (length d) d (λ x. deadlines_of x) (same_deadlines s t g)
