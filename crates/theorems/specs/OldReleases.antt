-- The rule for adjusted releases as it was before request 105, and that the screen's number is the same under both. Nothing else uses the old rule.
use Rattle.std.specs.Prelude.{◌≡◌, refl, Bool, true, false, List, [], ◌∷◌, ◌↔◌, ℕ, ◌≤◌, ◌<◌, Option, Some, is_some}
use Rattle.std.proofs.Common.{sym, ◌∙◌, arith, ltb-false}
use Rattle.std.proofs.lemmas.Bool.{not-false}
use Rattle.vocabulary.specs.Test.{pick}
use Rattle.vocabulary.specs.First.{first_of}
use Rattle.vocabulary.proofs.First.{first_said}
use Rattle.vocabulary.specs.Least.{least, all, some}
use Rattle.vocabulary.proofs.Least.{some_yes, some_at}
use Rattle.vocabulary.specs.Total.{total}
use Rattle.vocabulary.specs.Table.{table, join, gather}
use Rattle.vocabulary.specs.Multiple.{lcm, lcm_of}
use Rattle.graph.specs.Graph.{reach, loops}
use Rattle.graph.specs.Longest as longest
use Rattle.graph.specs.Soonest as soonest
use Rattle.kinds.specs.Limits.{holds, rises}
use Rattle.kinds.specs.Editions.{edition_of}
use Rattle.kinds.specs.Tasks.{Tasks, Patterns, Set, tasks_of, patterns_of, pairs_in, view}
use Rattle.kinds.specs.Cycle.{cycle, jobs_of, jobs_before, jobs, cycle_fits}
use Rattle.kinds.specs.Jobs.{release, due, number_of_job, task_of_job, job_of_job}
use Rattle.kinds.specs.Links.{common, link_from, link_to, repeats, links_of, links, inner, spans_of, links_in}
use Rattle.kinds.specs.Sound.{attributes_fit, task_fits, pair_key, pair_fits, pattern_key, heading_fits, pattern_fits, opening_fits, sound}
use Rattle.reader.specs.Files.{taken_of, set_taken}
use Rattle.network.specs.Network.{pair_links, pattern_links, cycle_links, link_starts, link_ends, network}
use Rattle.network.specs.Times.{Weight, ReleasesBy, release_by, own_release, own_due, own_running, adjusted_deadline}
use Rattle.network.specs.Causes.{on_cycle, load, room, tight_by, lowest_cycle, lowest_tight_by, lowest_tight}
use Rattle.screen.specs.declared.Finding.{Finding}
use Rattle.screen.specs.declared.Finding.TheVariants as finding
use Rattle.screen.specs.Answers.{finding_number}
use Rattle.screen.specs.Findings.{screen_rules, finding_by, finding_of}
use Rattle.screen.specs.Heads.{screened_of}
use Rattle.theorems.specs.ScreenTimes.{NoCycle, releases_by, releases_by_only}
use Rattle.theorems.specs.ScreenTrue.{TightBy, tight_iff, free}
use Rattle.theorems.specs.LateJobs.{Light, same_late, no_later}

-- ---- the old rule
-- a job's adjusted release gained nothing on the way to its successors
abbrev pub old_weight : Weight
old_weight u x = 0

-- Adjusted releases were those of which each is the greatest of the job's own release and its predecessors' adjusted ones.
abbrev pub OldReleases : Tasks → Patterns → (ℕ → ℕ) → Type 0
OldReleases u v r = ReleasesBy old_weight u v r

abbrev pub old_release : Tasks → Patterns → ℕ → ℕ
old_release u v x = release_by old_weight u v x

-- what the screen found by them
abbrev pub old_finding : Set → Option Finding
old_finding s = finding_by old_weight s

-- ==== They were the only ones.
pub old_releases : (s : Set) → sound s ≡ true → NoCycle s.tasks s.patterns → (r : ℕ → ℕ) → OldReleases s.tasks s.patterns r
    → (x : ℕ) → x < jobs s.tasks → r x ≡ old_release s.tasks s.patterns x
old_releases s e c r p =
    releases_by_only s e c old_weight r (old_release s.tasks s.patterns) p (releases_by s e c old_weight)

-- ---- old and new
old_light : (u : Tasks) → Light old_weight u
old_light u = record { each = λ x l. omega arith }

new_light : (u : Tasks) → Light own_running u
new_light u = record { each = λ x l. omega arith }

-- some job of the cycle is too tight, for whatever releases over the weight and deadlines satisfy the rules
pub record SomeTight (w : Weight) (s : Set) : Type 0 where
  pub job : ℕ
  pub low : job < jobs s.tasks
  pub tight : TightBy w s.tasks s.patterns job

module _ (s : Set) (e : sound s ≡ true) (c : NoCycle s.tasks s.patterns) where
  abbrev some_tight : Weight → Bool
  some_tight w = some (tight_by w s.tasks s.patterns) (jobs s.tasks)

  test_of : (w : Weight) → SomeTight w s → some_tight w ≡ true
  test_of w t = some_yes (tight_by w s.tasks s.patterns) (jobs s.tasks) t.job t.low ((tight_iff s e w c t.job t.low).1 t.tight)

  of_test : (w : Weight) → some_tight w ≡ true → SomeTight w s
  of_test w h =
      let a = some_at (tight_by w s.tasks s.patterns) (jobs s.tasks) h in
      let x : ℕ = lowest_tight_by w s in
      record { job = x; low = a.0; tight = (tight_iff s e w c x a.0).0 a.1 }

  same_test : some_tight own_running ≡ some_tight old_weight
  same_test = same_late s e c own_running old_weight (new_light s.tasks) (old_light s.tasks)

  -- ==== On a sound set without a cycle of links some job's adjusted release + C is over its adjusted deadline exactly where some job's was by the old rule.
  pub some_tight_iff : SomeTight own_running s ↔ SomeTight old_weight s
  some_tight_iff = (λ t. of_test old_weight (sym same_test ∙ test_of own_running t), λ t. of_test own_running (same_test ∙ test_of old_weight t))

-- ==== For every set, sound or not, the screen's number is the number under the old rule.
pub same_findings : (s : Set) → finding_number (finding_of s) ≡ finding_number (old_finding s)
unfolding finding_by screen_rules
same_findings s =
    first_said finding_number _ _ _ _ _ refl (λ e. refl)
    (λ k₁₀.
    let e = not-false (sound s) k₁₀ in
    first_said finding_number _ _ _ _ _ refl (λ b. refl)
    (λ k₁₃.
    let c = free s e (ltb-false (lowest_cycle s) (jobs s.tasks) k₁₃) in
    first_said finding_number _ _ _ _ _ refl (λ b. refl)
    (λ k₁₄.
    first_said finding_number _ _ _ _ _ (same_test s e c) (λ b. refl) (λ k₁₅. refl))))

-- ==== So it is 15 for exactly the same sets.
pub same_tight_sets : (s : Set) → (finding_number (finding_of s) ≡ 15) ↔ (finding_number (old_finding s) ≡ 15)
same_tight_sets s = (λ h. sym (same_findings s) ∙ h, λ h. same_findings s ∙ h)

-- ==== The same for C: the number for bytes that are a head and nothing more is that of their set under the old rule, and 10 for any others.
pub same_screened : (tasks : List ℕ)
    → finding_number (screened_of tasks) ≡ pick (is_some (taken_of tasks)) (finding_number (old_finding (view (set_taken tasks)))) 10
unfolding screened_of
same_screened tasks = go (is_some (taken_of tasks))
  where
    go : (b : Bool) → finding_number (pick b (finding_of (view (set_taken tasks))) (Some finding.BadSet))
        ≡ pick b (finding_number (old_finding (view (set_taken tasks)))) 10
    go true = same_findings (view (set_taken tasks))
    go false = refl

-- ==== The job that 15 names may be another: it is the one of the old rule or an earlier one.
pub named_no_later : (s : Set) → sound s ≡ true → NoCycle s.tasks s.patterns → lowest_tight s ≤ lowest_tight_by old_weight s
named_no_later s e c = no_later s e c old_weight own_running (λ x l. omega arith)

-- ---- it can be an earlier one
-- tasks (10, 3, 0, 6) and (10, 4, 0, 5) on two processors, of which the second precedes the first: it has 3 ticks for its 4, and then the first comes too late
abbrev pressed : Set
pressed =
    record {
      edition = 1;
      processors = 2;
      tasks = tasks_of 2 (10 ∷ 3 ∷ 0 ∷ 6 ∷ 10 ∷ 4 ∷ 0 ∷ 5 ∷ []);
      patterns = patterns_of 1 (1 ∷ 0 ∷ 1 ∷ []) (0 ∷ 0 ∷ []);
    }

-- ==== Here the old rule named task 1 and the new one names task 0.
pub another_job : (old_finding pressed ≡ Some (finding.TooTight 1 0)) × (finding_of pressed ≡ Some (finding.TooTight 0 0))
unfolding finding_by screen_rules first_of least all total table join gather lcm lcm_of reach loops longest.most longest.entry longest.rounds soonest.fewest
    soonest.due soonest.soonest holds rises pairs_in cycle jobs_of jobs_before jobs cycle_fits release due number_of_job task_of_job job_of_job common
    link_from link_to repeats links_of links inner edition_of spans_of links_in attributes_fit task_fits pair_key pair_fits pattern_key heading_fits
    pattern_fits opening_fits sound pair_links pattern_links cycle_links link_starts link_ends network own_release own_due own_running release_by
    adjusted_deadline on_cycle load room tight_by
another_job = (refl, refl)
