-- Adjusted times: what an answer of their call says of the set and of the two buffers.
use Rattle.std.specs.Prelude.{◌≡◌, Bool, ◌||◌, List, ℕ, ◌<◌, eqb, ltb, ℤ, pos, length, get_or, Some, Ok, Err, is_some}
use Rattle.std.proofs.Math.Path.{refl, subst}
use Rattle.std.proofs.Common.{sym, ap, ◌∙◌, arith, eqb-true, eq-eqb, ltb-true, ltb-false}
use Rattle.std.proofs.Math.Bool.{true, false, not}
use Rattle.vocabulary.specs.Test.{pick}
use Rattle.vocabulary.proofs.Test.{took, clash}
use Rattle.vocabulary.specs.First.{first_of}
use Rattle.vocabulary.proofs.Table.{length_table, get_or_table}
use Rattle.kinds.specs.Tasks.{Tasks, Patterns, Set, view}
use Rattle.kinds.specs.Cycle.{jobs}
use Rattle.kinds.specs.Jobs.{task_of_job, job_of_job}
use Rattle.kinds.specs.Sound.{sound}
use Rattle.reader.specs.Files.{taken_of, set_taken}
use Rattle.network.specs.Times.{AdjustedReleases, AdjustedDeadlines, adjusted_release, adjusted_deadline}
use Rattle.network.specs.Causes.{lowest_cycle, releases_of, deadlines_of}
use Rattle.screen.specs.declared.Finding.TheVariants as finding
use Rattle.screen.specs.Answers.{Adjusted}
use Rattle.screen.specs.declared.Unadjusted.TheVariants as unadjusted
use Rattle.screen.specs.Answers.{adjusted_number, written}
use Rattle.screen.specs.Findings.{adjust_rules, adjusted_of, releases_left, deadlines_left}
use Rattle.screen.specs.Written.{Answered}
use Rattle.screen.specs.Heads.{adjusted_head, releases_kept, deadlines_kept, AdjustedBy}
use Rattle.screen.proofs.Order.{on_cycle_lem}
use Rattle.theorems.specs.ScreenTimes.{NoCycle, adjusted_releases, adjusted_releases_only, adjusted_deadlines, adjusted_deadlines_only}
use Rattle.theorems.specs.ScreenTrue.{OnCycle, LowestJob, Finds, finding_true, free}

-- ---- what the buffers hold
-- releases: one for each job, and these are the one solution of the equations, whatever solves them
pub record HoldsReleases (u : Tasks) (v : Patterns) (buffer : List ℤ) : Type 0 where
  pub long : length buffer ≡ jobs u
  pub release : ℕ → ℕ
  pub solves : AdjustedReleases u v release
  pub only : (r : ℕ → ℕ) → AdjustedReleases u v r → (x : ℕ) → x < jobs u → get_or buffer x (pos 0) ≡ pos (r x)

-- deadlines, too
pub record HoldsDeadlines (u : Tasks) (v : Patterns) (buffer : List ℤ) : Type 0 where
  pub long : length buffer ≡ jobs u
  pub deadline : ℕ → ℤ
  pub solves : AdjustedDeadlines u v deadline
  pub only : (d : ℕ → ℤ) → AdjustedDeadlines u v d → (x : ℕ) → x < jobs u → get_or buffer x (pos 0) ≡ d x

-- both buffers have a place for each job and no more
pub record RightLengths (s : Set) (r d : List ℤ) : Type 0 where
  pub releases : length r ≡ jobs s.tasks
  pub deadlines : length d ≡ jobs s.tasks

-- nothing is written
pub record Unwritten (r d r' d' : List ℤ) : Type 0 where
  pub releases : r' ≡ r
  pub deadlines : d' ≡ d

-- ---- what each answer says
pub record WrittenTimes (s : Set) (r d r' d' : List ℤ) : Type 0 where
  pub is_sound : sound s ≡ true
  pub lengths : RightLengths s r d
  pub no_cycle_lem : NoCycle s.tasks s.patterns
  pub releases : HoldsReleases s.tasks s.patterns r'
  pub deadlines : HoldsDeadlines s.tasks s.patterns d'

pub record RefusedLength (s : Set) (r d r' d' : List ℤ) : Type 0 where
  pub is_sound : sound s ≡ true
  pub other : RightLengths s r d → ⊥
  pub kept : Unwritten r d r' d'

pub record RefusedCycle (s : Set) (i k : ℕ) (r d r' d' : List ℤ) : Type 0 where
  pub is_sound : sound s ≡ true
  pub lengths : RightLengths s r d
  pub lowest : LowestJob s.tasks (OnCycle s.tasks s.patterns) i k
  pub kept : Unwritten r d r' d'

-- the buffers r and d come in, and are r' and d' afterwards
unfoldable pub Says : Set → (r d : List ℤ) → Adjusted → (r' d' : List ℤ) → Type 0
Says s r d (Ok tt) r' d' = WrittenTimes s r d r' d'
Says s r d (Err unadjusted.BadSet) r' d' = (sound s ≡ false) × Unwritten r d r' d'
Says s r d (Err unadjusted.WrongLength) r' d' = RefusedLength s r d r' d'
Says s r d (Err (unadjusted.Cycle i k)) r' d' = RefusedCycle s i k r d r' d'

module _ (s : Set) (r d : List ℤ) where
  abbrev u : Tasks
  u = s.tasks

  abbrev v : Patterns
  v = s.patterns

  -- ---- the tests behind an answer
  unequal : (not (eqb (length r) (jobs u)) || not (eqb (length d) (jobs u))) ≡ true → RightLengths s r d → ⊥
  unequal e w = let q : false ≡ true = rw (w.releases, w.deadlines, eq-eqb (jobs u) (jobs u) refl) at e in clash q refl

  equal : (not (eqb (length r) (jobs u)) || not (eqb (length d) (jobs u))) ≡ false → RightLengths s r d
  equal e = go (eqb (length r) (jobs u)) (eqb (length d) (jobs u)) refl refl e
    where
      go : (a b : Bool) → eqb (length r) (jobs u) ≡ a → eqb (length d) (jobs u) ≡ b → (not a || not b) ≡ false → RightLengths s r d
      go true true x y e = record { releases = eqb-true (length r) (jobs u) x; deadlines = eqb-true (length d) (jobs u) y }
      go true false x y e = clash refl e
      go false b x y e = clash refl e

  -- ---- what is written
  held_releases : sound s ≡ true → NoCycle u v → HoldsReleases u v (releases_of s)
  held_releases e f =
      record {
        long = length_table _ (jobs u);
        release = adjusted_release u v;
        solves = adjusted_releases s e f;
        only = λ a q x l.
            get_or_table _ (jobs u) x (pos 0) l ∙ ap pos (adjusted_releases_only s e f (adjusted_release u v) a (adjusted_releases s e f) q x l);
      }

  held_deadlines : sound s ≡ true → NoCycle u v → HoldsDeadlines u v (deadlines_of s)
  held_deadlines e f =
      record {
        long = length_table _ (jobs u);
        deadline = adjusted_deadline u v;
        solves = adjusted_deadlines s e f;
        only = λ a q x l.
            get_or_table _ (jobs u) x (pos 0) l ∙ adjusted_deadlines_only s e f (adjusted_deadline u v) a (adjusted_deadlines s e f) q x l;
      }

  lowest_job : sound s ≡ true → lowest_cycle s < jobs u → LowestJob u (OnCycle u v) (task_of_job u (lowest_cycle s)) (job_of_job u (lowest_cycle s))
  unfolding Finds
  lowest_job e l =
      let w : Finds s (Some (finding.Cycle (task_of_job u (lowest_cycle s)) (job_of_job u (lowest_cycle s)))) =
      subst (Finds s) (on_cycle_lem s e l) (finding_true s) in
      w.lowest

  -- ---- the answer, test by test
  abbrev answer : Bool → Bool → Bool → Adjusted
  answer a b c =
      pick (not a) (Err unadjusted.BadSet)
      (pick b (Err unadjusted.WrongLength) (pick c (Err (unadjusted.Cycle (task_of_job u (lowest_cycle s)) (job_of_job u (lowest_cycle s)))) (Ok tt)))

  abbrev Said : Bool → Bool → Bool → Type 0
  Said a b c = Says s r d (answer a b c) (pick (written (answer a b c)) (releases_of s) r) (pick (written (answer a b c)) (deadlines_of s) d)

  by_cycle : (c : Bool) → sound s ≡ true → RightLengths s r d → ltb (lowest_cycle s) (jobs u) ≡ c → Said true false c
  unfolding Says
  by_cycle true e w h =
      record {
        is_sound = e;
        lengths = w;
        lowest = lowest_job e (ltb-true (lowest_cycle s) (jobs u) h);
        kept = record { releases = refl; deadlines = refl };
      }
  by_cycle false e w h =
      let f = free s e (ltb-false (lowest_cycle s) (jobs u) h) in
      record { is_sound = e; lengths = w; no_cycle_lem = f; releases = held_releases e f; deadlines = held_deadlines e f }

  by_length : (b : Bool) → sound s ≡ true → (not (eqb (length r) (jobs u)) || not (eqb (length d) (jobs u))) ≡ b
      → Said true b (ltb (lowest_cycle s) (jobs u))
  unfolding Says
  by_length true e h = record { is_sound = e; other = unequal h; kept = record { releases = refl; deadlines = refl } }
  by_length false e h = by_cycle (ltb (lowest_cycle s) (jobs u)) e (equal h) refl

  by_sound : (a : Bool) → sound s ≡ a
      → Said a (not (eqb (length r) (jobs u)) || not (eqb (length d) (jobs u))) (ltb (lowest_cycle s) (jobs u))
  unfolding Says
  by_sound true e = by_length (not (eqb (length r) (jobs u)) || not (eqb (length d) (jobs u))) e refl
  by_sound false e = (e, record { releases = refl; deadlines = refl })

  says : Says s r d (adjusted_of s (length r) (length d)) (releases_left s r d) (deadlines_left s r d)
  unfolding Says adjusted_of adjust_rules first_of releases_left deadlines_left
  says = by_sound (sound s) refl

-- ==== What the call for adjusted times answers is so: where it answers that they are written, the two buffers hold the one solution of the equations
-- (network Times); its 13 names the lowest job that lies on a cycle; 11 is given where the lengths are not those of the jobs, 10 for a set that is not
-- sound, and after a refusal both buffers are as they were.
pub adjusted_true : (s : Set) (r d : List ℤ) (a : Adjusted) (r' d' : List ℤ) → Answered s r d a r' d' → Says s r d a r' d'
adjusted_true s r d a r' d' w = rw (w.answer, w.releases, w.deadlines) (says s r d)

-- ==== The same for C: bytes that are a head and nothing more are judged by their set; any others get 10, and nothing is written.
pub adjusted_bytes : (tasks : List ℕ) (r d : List ℤ) (a : Adjusted) (r' d' : List ℤ) → AdjustedBy (λ x. x) tasks r d a r' d'
    → is_some (taken_of tasks) ≡ true → Says (view (set_taken tasks)) r d a r' d'
unfolding adjusted_head releases_kept deadlines_kept
adjusted_bytes tasks r d a r' d' w e =
    adjusted_true (view (set_taken tasks)) r d a r' d'
    (record { answer = w.answer ∙ rw e; releases = w.releases ∙ rw e; deadlines = w.deadlines ∙ rw e })

pub not_adjusted : (tasks : List ℕ) (r d : List ℤ) (a : Adjusted) (r' d' : List ℤ) → AdjustedBy (λ x. x) tasks r d a r' d'
    → is_some (taken_of tasks) ≡ false → (a ≡ (Err unadjusted.BadSet)) × Unwritten r d r' d'
unfolding adjusted_head releases_kept deadlines_kept
not_adjusted tasks r d a r' d' w e =
    (w.answer ∙ rw e, record { releases = w.releases ∙ rw e; deadlines = w.deadlines ∙ rw e })

-- ---- and by the number that C is told
zero_written : (a : Adjusted) → adjusted_number a ≡ 0 → a ≡ Ok tt
zero_written (Ok tt) e = refl
zero_written (Err unadjusted.BadSet) e = absurd (omega arith)
zero_written (Err unadjusted.WrongLength) e = absurd (omega arith)
zero_written (Err (unadjusted.Cycle i k)) e = absurd (omega arith)

head_fits : (tasks : List ℕ) (p q : ℕ) → adjusted_head tasks p q ≡ Ok tt → is_some (taken_of tasks) ≡ true
unfolding adjusted_head
head_fits tasks p q e = (took (is_some (taken_of tasks)) _ _ _ e (λ z. omega (arith, ap adjusted_number z))).0

-- ==== Where it is 0, the bytes are a head and nothing more, and the buffers hold its adjusted times.
pub adjusted_zero : (tasks : List ℕ) (r d r' d' : List ℤ) → AdjustedBy adjusted_number tasks r d 0 r' d'
    → (is_some (taken_of tasks) ≡ true) × WrittenTimes (view (set_taken tasks)) r d r' d'
unfolding Says
adjusted_zero tasks r d r' d' w =
    let a = zero_written (adjusted_head tasks (length r) (length d)) (sym w.answer) in
    let f = head_fits tasks (length r) (length d) a in (
      f,
      adjusted_bytes tasks r d (Ok tt) r' d' (record { answer = sym a; releases = w.releases; deadlines = w.deadlines }) f,
    )
