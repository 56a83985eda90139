-- A finding's evidence is what it says, and it is the only finding that the set allows.
use Rattle.std.specs.Prelude.{◌≡◌, false, not, List, [], ◌∷◌, ◌↔◌, ℕ, ◌+◌, ◌≤◌, ◌<◌, ℤ, pos, Option, Some, None}
use Rattle.std.proofs.Math.Path.{refl}
use Rattle.std.proofs.Common.{sym, ap, ap₂, ◌∙◌, subst, arith, le-ltb, ltb-true, ltb-false}
use Rattle.std.proofs.Math.Bool.{true}
use Rattle.std.specs.Int.Signed.{lt_z}
use Rattle.std.proofs.lemmas.Bool.{not-true, not-false}
use Rattle.vocabulary.specs.First.{Claim, claim, numbers_of, earlier, Each, ◌also◌, Told, KeptBy}
use Rattle.vocabulary.proofs.First.{first_told}
use Rattle.vocabulary.specs.Lowest.{Lowest}
use Rattle.vocabulary.proofs.Lowest.{least_lowest, lowest_is, least_none, none_least}
use Rattle.graph.specs.Graph.{Way}
use Rattle.graph.proofs.Reach.{loops_iff}
use Rattle.kinds.specs.Tasks.{Tasks, Patterns, Set}
use Rattle.kinds.specs.Cycle.{jobs, jobs_of}
use Rattle.kinds.specs.Jobs.{number_of_job, task_of_job, job_of_job}
use Rattle.kinds.specs.Sound.{sound}
use Rattle.kinds.proofs.SoundFacts.{sound_facts}
use Rattle.laws.proofs.Order.{task_low, task_of_number, job_of_number, number_low}
use Rattle.laws.proofs.Back.{job_of_low, number_back}
use Rattle.screen.specs.declared.Finding.{Finding}
use Rattle.screen.specs.declared.Finding.TheVariants as finding
use Rattle.network.specs.Network.{network}
use Rattle.network.specs.NetworkLaws.{inside_network}
use Rattle.network.specs.Times.{own_running, Weight, ReleasesBy, release_by, AdjustedDeadlines, adjusted_deadline}
use Rattle.screen.specs.Answers.{finding_number}
use Rattle.network.specs.Causes.{on_cycle, load, room, tight_by, tight}
use Rattle.screen.specs.Findings.{screen_rules, finding_by, finding_of}
use Rattle.network.specs.Causes.{lowest_cycle, lowest_tight}
use Rattle.screen.proofs.Order.{not_sound, on_cycle_lem, overloaded, too_tight, nothing_found}
use Rattle.theorems.specs.ScreenTimes.{NoCycle, releases_by, releases_by_only, adjusted_deadlines, adjusted_deadlines_only}

-- ---- what each finding says
-- job x lies on a cycle: a way of at least one link leads from it to itself
abbrev pub OnCycle : Tasks → Patterns → ℕ → Type 0
OnCycle u v x = Way (network u v) x x

-- a job's adjusted release and C are over its adjusted deadline, for releases over a weight and deadlines that satisfy rule R8.2
pub record TightBy (w : Weight) (u : Tasks) (v : Patterns) (x : ℕ) : Type 0 where
  pub release : ℕ → ℕ
  pub deadline : ℕ → ℤ
  pub releases : ReleasesBy w u v release
  pub deadlines : AdjustedDeadlines u v deadline
  pub over : lt_z (deadline x) (pos (release x + own_running u x)) ≡ true

-- for releases that satisfy rule R8.3
abbrev pub Tight : Tasks → Patterns → ℕ → Type 0
Tight u v x = TightBy own_running u v x

-- Rule R7.6: job k of task i is a job of the cycle with the property, and none before it has it
pub record LowestJob (u : Tasks) (P : ℕ → Type 0) (i k : ℕ) : Type 0 where
  pub task : i < u.count
  pub job : k < jobs_of u i
  pub is : P (number_of_job u i k)
  pub before : (x : ℕ) → x < number_of_job u i k → P x → ⊥

-- 10, rule R9.1
pub record FoundBad (s : Set) : Type 0 where
  pub unsound : sound s ≡ false

-- 13, rule R9.2, with the lowest job that lies on a cycle
pub record FoundCycle (s : Set) (i k : ℕ) : Type 0 where
  pub is_sound : sound s ≡ true
  pub lowest : LowestJob s.tasks (OnCycle s.tasks s.patterns) i k

-- 14, rule R9.3, with both numbers
pub record FoundOverload (s : Set) (a b : ℕ) : Type 0 where
  pub is_sound : sound s ≡ true
  pub no_cycle_lem : NoCycle s.tasks s.patterns
  pub sum : a ≡ load s.tasks
  pub slots : b ≡ room s
  pub over : b < a

-- 15, rule R9.4, with the lowest such job
pub record FoundTight (s : Set) (i k : ℕ) : Type 0 where
  pub is_sound : sound s ≡ true
  pub no_cycle_lem : NoCycle s.tasks s.patterns
  pub no_overload : load s.tasks ≤ room s
  pub lowest : LowestJob s.tasks (Tight s.tasks s.patterns) i k

-- no finding
pub record FoundNothing (s : Set) : Type 0 where
  pub is_sound : sound s ≡ true
  pub no_cycle_lem : NoCycle s.tasks s.patterns
  pub no_overload : load s.tasks ≤ room s
  pub none_tight : (x : ℕ) → x < jobs s.tasks → Tight s.tasks s.patterns x → ⊥

unfoldable pub Finds : Set → Option Finding → Type 0
Finds s None = FoundNothing s
Finds s (Some finding.BadSet) = FoundBad s
Finds s (Some (finding.Cycle i k)) = FoundCycle s i k
Finds s (Some (finding.Overload a b)) = FoundOverload s a b
Finds s (Some (finding.TooTight i k)) = FoundTight s i k

-- ---- a lowest job is the lowest number, and back
module _ (u : Tasks) (P : ℕ → Type 0) where
  job_from : (x : ℕ) → Lowest P (jobs u) x → LowestJob u P (task_of_job u x) (job_of_job u x)
  job_from x w =
      record {
        task = task_low u x w.low;
        job = job_of_low u x w.low;
        is = subst P (sym (number_back u x w.low)) w.here;
        before = λ y h. w.lower y (omega (arith, number_back u x w.low));
      }

  job_to : (i k : ℕ) → LowestJob u P i k → Lowest P (jobs u) (number_of_job u i k)
  job_to i k w = record { low = number_low u i k w.task w.job; here = w.is; lower = w.before }

  -- the task and the job of the number are those that it was made of
  same_job : (A : ℕ → ℕ → Option Finding) (i k x : ℕ) → LowestJob u P i k → number_of_job u i k ≡ x → A i k ≡ A (task_of_job u x) (job_of_job u x)
  same_job A i k x w e =
      ap₂ A (sym (task_of_number u i k w.task w.job) ∙ ap (task_of_job u) e) (sym (job_of_number u i k w.task w.job) ∙ ap (job_of_job u) e)

-- ---- the computed tests say the same
module _ (s : Set) (e : sound s ≡ true) where
  abbrev u : Tasks
  u = s.tasks

  abbrev v : Patterns
  v = s.patterns

  cycle_iff : (x : ℕ) → x < jobs s.tasks → (on_cycle s.tasks s.patterns x ≡ true) ↔ OnCycle s.tasks s.patterns x
  unfolding on_cycle
  cycle_iff x l = loops_iff (network u v) x (inside_network s (sound_facts s e))

  pub tight_iff : (w : Weight) → NoCycle s.tasks s.patterns → (x : ℕ) → x < jobs s.tasks
      → (tight_by w s.tasks s.patterns x ≡ true) ↔ TightBy w s.tasks s.patterns x
  unfolding tight_by
  tight_iff w free x l = (there, back)
    where
      there : lt_z (adjusted_deadline u v x) (pos (release_by w u v x + own_running u x)) ≡ true → TightBy w u v x
      there h =
          record {
            release = release_by w u v;
            deadline = adjusted_deadline u v;
            releases = releases_by s e free w;
            deadlines = adjusted_deadlines s e free;
            over = h;
          }

      back : TightBy w u v x → lt_z (adjusted_deadline u v x) (pos (release_by w u v x + own_running u x)) ≡ true
      back t =
          ap₂ (λ (d : ℤ) (r : ℕ). lt_z d (pos (r + own_running u x)))
          (adjusted_deadlines_only s e free (adjusted_deadline u v) t.deadline (adjusted_deadlines s e free) t.deadlines x l)
          (releases_by_only s e free w (release_by w u v) t.release (releases_by s e free w) t.releases x l)
          ∙ t.over

  free_lowest : NoCycle s.tasks s.patterns → jobs s.tasks ≤ lowest_cycle s
  free_lowest free = none_least (on_cycle u v) (OnCycle u v) (jobs u) cycle_iff free.each

  -- ---- what is so is found
  only_nothing : FoundNothing s → None ≡ finding_of s
  only_nothing w =
      sym (nothing_found s e (free_lowest w.no_cycle_lem) w.no_overload
      (none_least (tight u v) (Tight u v) (jobs u) (tight_iff own_running w.no_cycle_lem) w.none_tight))

  only_cycle : (i k : ℕ) → FoundCycle s i k → Some (finding.Cycle i k) ≡ finding_of s
  only_cycle i k w =
      let m = job_to u (OnCycle u v) i k w.lowest in
      let x : number_of_job u i k ≡ lowest_cycle s = lowest_is (on_cycle u v) (OnCycle u v) (jobs u) cycle_iff (number_of_job u i k) m in
      same_job u (OnCycle u v) (λ a b. Some (finding.Cycle a b)) i k (lowest_cycle s) w.lowest x ∙ sym (on_cycle_lem s e (omega (arith, m.low)))

  only_overload : (a b : ℕ) → FoundOverload s a b → Some (finding.Overload a b) ≡ finding_of s
  only_overload a b w =
      ap₂ (λ (c d : ℕ). Some (finding.Overload c d)) w.sum w.slots
      ∙ sym (overloaded s e (free_lowest w.no_cycle_lem) (omega (arith, w.sum, w.slots, w.over)))

  only_tight : (i k : ℕ) → FoundTight s i k → Some (finding.TooTight i k) ≡ finding_of s
  only_tight i k w =
      let m = job_to u (Tight u v) i k w.lowest in
      let x : number_of_job u i k ≡ lowest_tight s =
      lowest_is (tight u v) (Tight u v) (jobs u) (tight_iff own_running w.no_cycle_lem) (number_of_job u i k) m in
      same_job u (Tight u v) (λ a b. Some (finding.TooTight a b)) i k (lowest_tight s) w.lowest x
      ∙ sym (too_tight s e (free_lowest w.no_cycle_lem) w.no_overload (omega (arith, m.low)))

-- ---- the chain of findings
-- what each rule of the screen says where it is kept, by its number
unfoldable pub screen_claims : Set → List Claim
screen_claims s =
    claim 10 (sound s ≡ true)
    ∷ claim 13 (jobs s.tasks ≤ lowest_cycle s)
    ∷ claim 14 (load s.tasks ≤ room s)
    ∷ claim 15 (jobs s.tasks ≤ lowest_tight s)
    ∷ []

-- and what its answer says where it is broken
unfoldable FoundBy : Set → Option Finding → Type 0
FoundBy s None = Unit {0}
FoundBy s (Some finding.BadSet) = sound s ≡ false
FoundBy s (Some (finding.Cycle i k)) =
    (lowest_cycle s < jobs s.tasks) × (i ≡ task_of_job s.tasks (lowest_cycle s)) × (k ≡ job_of_job s.tasks (lowest_cycle s))
FoundBy s (Some (finding.Overload a b)) = (room s < load s.tasks) × (a ≡ load s.tasks) × (b ≡ room s)
FoundBy s (Some (finding.TooTight i k)) =
    (lowest_tight s < jobs s.tasks) × (i ≡ task_of_job s.tasks (lowest_tight s)) × (k ≡ job_of_job s.tasks (lowest_tight s))

told : (s : Set) → Each (Told (KeptBy (screen_claims s)) (FoundBy s) finding_number) (screen_rules own_running s)
unfolding screen_claims KeptBy FoundBy screen_rules
told s =
    record { kept = (λ e. not-false (sound s) e, λ k. ap not k); breach = λ e. not-true (sound s) e; number = refl }
    also record {
      kept = (λ e. ltb-false (lowest_cycle s) (jobs s.tasks) e, λ k. le-ltb (lowest_cycle s) (jobs s.tasks) k);
      breach = λ e. (ltb-true (lowest_cycle s) (jobs s.tasks) e, refl, refl);
      number = refl;
    }
    also record {
      kept = (λ e. ltb-false (room s) (load s.tasks) e, λ k. le-ltb (room s) (load s.tasks) k);
      breach = λ e. (ltb-true (room s) (load s.tasks) e, refl, refl);
      number = refl;
    }
    also record {
      kept = (λ e. ltb-false (lowest_tight s) (jobs s.tasks) e, λ k. le-ltb (lowest_tight s) (jobs s.tasks) k);
      breach = λ e. (ltb-true (lowest_tight s) (jobs s.tasks) e, refl, refl);
      number = refl;
    }
    also tt

-- every rule of the screen before a number is kept
abbrev KeptBefore : Set → ℕ → Type 0
KeptBefore s n = (m : ℕ) → earlier (numbers_of (screen_rules own_running s)) m n ≡ true → KeptBy (screen_claims s) m

-- where the rules before a finding are kept and its own is broken as it says, the finding is true
module _ (s : Set) where
  pub free : sound s ≡ true → jobs s.tasks ≤ lowest_cycle s → NoCycle s.tasks s.patterns
  free e l = record { each = least_none (on_cycle s.tasks s.patterns) (OnCycle s.tasks s.patterns) (jobs s.tasks) (cycle_iff s e) l }

  meant : (f : Option Finding) → KeptBefore s (finding_number f) → FoundBy s f → Finds s f
  unfolding Finds FoundBy screen_claims KeptBy screen_rules earlier
  meant None k w =
      let e = k 10 refl in
      let c = free e (k 13 refl) in
      record {
        is_sound = e;
        no_cycle_lem = c;
        no_overload = k 14 refl;
        none_tight = least_none (tight s.tasks s.patterns) (Tight s.tasks s.patterns) (jobs s.tasks) (tight_iff s e own_running c) (k 15 refl);
      }
  meant (Some finding.BadSet) k w = record { unsound = w }
  meant (Some (finding.Cycle i j)) k w =
      let e = k 10 refl in
      let x = least_lowest (on_cycle s.tasks s.patterns) (OnCycle s.tasks s.patterns) (jobs s.tasks) (cycle_iff s e) w.0 in
      record { is_sound = e; lowest = rw (w.1, w.2) (job_from s.tasks (OnCycle s.tasks s.patterns) (lowest_cycle s) x) }
  meant (Some (finding.Overload a b)) k w =
      let e = k 10 refl in
      record { is_sound = e; no_cycle_lem = free e (k 13 refl); sum = w.1; slots = w.2; over = rw (w.1, w.2) w.0 }
  meant (Some (finding.TooTight i j)) k w =
      let e = k 10 refl in
      let c = free e (k 13 refl) in
      let x = least_lowest (tight s.tasks s.patterns) (Tight s.tasks s.patterns) (jobs s.tasks) (tight_iff s e own_running c) w.0 in
      record {
        is_sound = e;
        no_cycle_lem = c;
        no_overload = k 14 refl;
        lowest = rw (w.1, w.2) (job_from s.tasks (Tight s.tasks s.patterns) (lowest_tight s) x);
      }

-- ==== A finding's evidence is what it says: 10 is given for a set that is not sound; 13 with the lowest job that lies on a cycle; 14 with the sum
-- of C·H/T and m·H, where no job lies on one and the first is over the second; 15 with the lowest job whose adjusted release + C is over its adjusted
-- deadline, where 13 and 14 do not hold; and nothing where none of them does. It follows from what is said of the first broken rule of any chain.
pub finding_true : (s : Set) → Finds s (finding_of s)
unfolding finding_by FoundBy
finding_true s =
    let w = first_told None (KeptBy (screen_claims s)) (FoundBy s) finding_number (screen_rules own_running s) (told s) tt in
    meant s (finding_of s) w.0 w.1

-- ==== And it is the only finding of which this can be said: two that are allowed are equal.
pub only_finding : (s : Set) → (a : Option Finding) → Finds s a → a ≡ finding_of s
unfolding Finds
only_finding s None w = only_nothing s w.is_sound w
only_finding s (Some finding.BadSet) w = sym (not_sound s w.unsound)
only_finding s (Some (finding.Cycle i k)) w = only_cycle s w.is_sound i k w
only_finding s (Some (finding.Overload a b)) w = only_overload s w.is_sound a b w
only_finding s (Some (finding.TooTight i k)) w = only_tight s w.is_sound i k w

pub same_finding : (s : Set) → (a b : Option Finding) → Finds s a → Finds s b → a ≡ b
same_finding s a b p q = only_finding s a p ∙ sym (only_finding s b q)
