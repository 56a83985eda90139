-- A finding is final: no plan of a set with a finding is valid.
use Rattle.std.specs.Prelude.{◌≡◌, refl, Bool, true, ◌&&◌, List, ◌⊎◌, ltb, pos, None}
use Rattle.std.proofs.Common.{sym, ◌∙◌, inl, inr}
use Rattle.std.proofs.Math.Path.{ap}
use Prim.Native.Nat.{ℕ, ◌+◌, ◌-◌, ◌<◌, ◌≤◌}
use native.Mathlib.Omega.{arith}
use Rattle.std.proofs.Math.Dec.{leb}
use Rattle.std.proofs.Math.IntN.{sub_ℕ}
use Rattle.std.specs.Int.Signed.{lt_z}
use borrow.Author.Tests.{leb-true, ltb-true, le-leb, lt-ltb}
use Rattle.vocabulary.proofs.Test.{both, lt_or_le, and_true}
use Rattle.vocabulary.specs.Count.{count}
use Rattle.vocabulary.proofs.Count.{count_same}
use Rattle.graph.specs.Graph.{Graph}
use Rattle.graph.proofs.Sub.{sub_ge}
use Rattle.kinds.specs.Tasks.{Tasks, Patterns, Set, deadline, from_task, to_task}
use Rattle.kinds.specs.Cycle.{jobs, jobs_of}
use Rattle.kinds.specs.Jobs.{release, due, in_window, number_of_job, task_of_job, job_of_job}
use Rattle.kinds.specs.Links.{link_from, link_to}
use Rattle.kinds.specs.Plans.{Plan, plan_of, runs, ticks}
use Rattle.kinds.specs.Valid.{TickOf, Valid}
use Rattle.kinds.specs.Sound.{sound}
use Rattle.kinds.proofs.SoundFacts.{Sound, sound_facts}
use Rattle.laws.proofs.Order.{task_low, task_of_number, job_of_number}
use Rattle.network.specs.Network.{network}
use Rattle.network.specs.NetworkLaws.{jobs_of_network, inside_network, inner_low, Made, each_made}
use Rattle.network.specs.Times.{own_release, own_due, own_running, release_by, adjusted_release}
use Rattle.network.specs.TimesLaws.{own_due_low, some_own_running, ahead, adjusted_deadline_is}
use Rattle.network.specs.Causes.{tight_by, tight}
use Rattle.screen.specs.Findings.{finding_of}
use Rattle.theorems.specs.ScreenTimes.{NoCycle}
use Rattle.theorems.specs.ScreenTrue.{tight_iff, Finds, only_finding}
use Rattle.theorems.specs.ScreenJobs.{Jobs, Given, no_ring, room_between}
use Rattle.theorems.specs.ScreenLoad.{load_fits}

-- the jobs of a cycle, and which ticks a plan gives to each
abbrev jobs_in : Set → Jobs
jobs_in s = record { links = network s.tasks s.patterns; r = own_release s.tasks; d = own_due s.tasks; c = own_running s.tasks }

unfoldable gets : Tasks → Plan → ℕ → ℕ → Bool
gets u p x t = runs u p (task_of_job u x) t && in_window u (task_of_job u x) (job_of_job u x) t

module _ (u : Tasks) (p : Plan) where
  tick_at_lem : (x t : ℕ) → gets u p x t ≡ true → TickOf u p (task_of_job u x) (job_of_job u x) t
  unfolding gets
  tick_at_lem x t e = let a = both {a = runs u p (task_of_job u x) t} e in record { ran = a.0; within = a.1 }

  -- the same of a job that is known by its task and number
  tick_of_lem : (i k t : ℕ) → i < u.count → k < jobs_of u i → gets u p (number_of_job u i k) t ≡ true → TickOf u p i k t
  tick_of_lem i k t li lk e = rw (task_of_number u i k li lk, job_of_number u i k li lk) at (tick_at_lem (number_of_job u i k) t e)

  in_own_window : (x t : ℕ) → gets u p x t ≡ true → (own_release u x ≤ t) × (t < own_due u x)
  unfolding own_release own_due in_window
  in_own_window x t e =
      let i : ℕ = task_of_job u x in
      let k : ℕ = job_of_job u x in
      let a = both {a = leb (release u i k) t} (tick_at_lem x t e).within in
      (leb-true (release u i k) t a.0, ltb-true t (due u i k) a.1)

  gets_count : (x : ℕ) → count (gets u p x) (own_release u x) (own_due u x - own_release u x) ≡ ticks u p (task_of_job u x) (job_of_job u x)
  unfolding gets own_release own_due due in_window ticks
  gets_count x =
      let i : ℕ = task_of_job u x in
      let r : ℕ = release u i (job_of_job u x) in
      let d : ℕ = deadline u i in
      ap (count (gets u p x) r) (let e : r + d - r ≡ d = omega arith in e)
      ∙ count_same (gets u p x) (runs u p i) r r d
      (λ y l. rw (le-leb r (r + y) (omega arith), lt-ltb (r + y) (r + d) (omega arith)) (and_true (runs u p i (r + y))))

over : (z a b : ℕ) → lt_z (sub_ℕ z a) (pos b) ≡ true → z < b + a
over z a b e = go (lt_or_le z a)
  where
    go : (z < a) ⊎ (a ≤ z) → z < b + a
    go (inl h) = omega arith
    go (inr h) = let q : ltb (z - a) b ≡ true = rw (sub_ge z a h) at e in omega (arith, ltb-true (z - a) b q)

module _ (s : Set) (f : Sound s) (slots : List ℕ) (valid : Valid s (plan_of s slots)) where
  abbrev u : Tasks
  u = s.tasks

  abbrev v : Patterns
  v = s.patterns

  abbrev p : Plan
  p = plan_of s slots

  kept : (x t t' : ℕ) → x < (network s.tasks s.patterns).e → gets s.tasks (plan_of s slots) ((network s.tasks s.patterns).from x) t ≡ true
      → gets s.tasks (plan_of s slots) ((network s.tasks s.patterns).to x) t' ≡ true → t < t'
  kept x t t' l a b = go (each_made u v x l)
    where
      go : Made u v ((network u v).from x) ((network u v).to x) → t < t'
      go w =
          let k : ℕ = w.pattern in
          let i = inner_low u v k w.pair w.turn w.within in
          (valid.kept.each k w.pair w.turn w.pattern_low w.pair_low).each t t'
          (tick_of_lem u p (from_task v k) (link_from u v k w.pair w.turn) t (f.from_low k w.pattern_low) i.0
          (ap (λ (y : ℕ). gets u p y t) (sym w.from_is) ∙ a))
          (tick_of_lem u p (to_task v k) (link_to u v k w.pair w.turn) t' (f.to_low k w.pattern_low) i.1
          (ap (λ (y : ℕ). gets u p y t') (sym w.to_is) ∙ b))

  exact : (x : ℕ) → x < jobs s.tasks
      → count (gets s.tasks (plan_of s slots) x) (own_release s.tasks x) (own_due s.tasks x - own_release s.tasks x) ≡ own_running s.tasks x
  unfolding own_running
  exact x l = gets_count u p x ∙ valid.exact.each (task_of_job u x) (job_of_job u x) (task_low u x l)

  given : Given (jobs_in s) (gets s.tasks (plan_of s slots))
  given =
      record {
        ends = inside_network s f;
        some_time = λ x l. some_own_running s f x (rw jobs_of_network at l);
        inside = λ x t l e. in_own_window u p x t e;
        exact = λ x l. exact x (rw jobs_of_network at l);
        kept = kept;
      }

  none_on_cycle : NoCycle s.tasks s.patterns
  none_on_cycle = record { each = λ x l w. no_ring (jobs_in s) (gets u p) given x (rw jobs_of_network l) w }

  none_tight : (x : ℕ) → x < jobs s.tasks → tight s.tasks s.patterns x ≡ true → ⊥
  unfolding tight_by release_by
  none_tight x l e =
      let g : Graph = network u v in
      let b : 12000 < adjusted_release u v x + own_running u x + ahead u v x =
      over 12000 (ahead u v x) (adjusted_release u v x + own_running u x) (rw (adjusted_deadline_is s f x l) at e) in
      omega (
        arith,
        room_between (jobs_in s) (gets u p) given (own_running u) (λ y ly. omega arith) 12000
            (λ y ly. own_due_low s f y (rw jobs_of_network at ly)) g.n g.n x
            (rw jobs_of_network l),
      )

-- ==== A set that has a valid plan has no finding.
pub no_finding : (s : Set) → sound s ≡ true → (slots : List ℕ) → Valid s (plan_of s slots) → finding_of s ≡ None
unfolding Finds
no_finding s e slots valid =
    let f : Sound s = sound_facts s e in
    let free : NoCycle s.tasks s.patterns = none_on_cycle s f slots valid in
    sym (only_finding s None
    (record {
      is_sound = e;
      no_cycle_lem = free;
      no_overload = load_fits s f (plan_of s slots) refl refl valid.exact;
      none_tight = λ x l t. none_tight s f slots valid x l ((tight_iff s e own_running free x l).1 t);
    }))

-- ==== So a finding is final: after one, no plan of the set is valid, whatever its slots.
pub finding_final : (s : Set) → sound s ≡ true → (finding_of s ≡ None → ⊥) → (slots : List ℕ) → Valid s (plan_of s slots) → ⊥
finding_final s e h slots valid = h (no_finding s e slots valid)
