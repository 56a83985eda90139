-- Links into the next round, and what an edition is for: it says how far a pair's second number may reach, and nothing else.
use Rattle.std.specs.Prelude.{◌≡◌, true, false, List, ◌↔◌, ℕ, ◌+◌, ◌*◌, ◌/◌, ◌<◌, ◌≤◌, eqb}
use Rattle.std.proofs.Math.Path.{refl}
use Rattle.std.proofs.Common.{subst, mul-le-mul, le_refl, arith}
use Rattle.vocabulary.specs.Test.{pick}
use Rattle.vocabulary.proofs.Test.{both}
use Rattle.vocabulary.specs.Least.{all}
use Rattle.vocabulary.proofs.Least.{all_at, all_from}
use Rattle.kinds.specs.declared.Key.{Key}
use Rattle.kinds.specs.Limits.{holds, pattern_counts, first_range, rises}
use Rattle.kinds.specs.Editions.{editions, rounds_of}
use Rattle.kinds.specs.RangeLaws.{holds_at, holds_yes}
use Rattle.kinds.specs.Tasks.{Tasks, Patterns, Set, period, from_task, to_task, pair_count, pairs_before}
use Rattle.kinds.specs.Cycle.{cycle, jobs_of, cycle_fits}
use Rattle.kinds.specs.Links.{common, first_reach, link_to, repeats, inner}
use Rattle.kinds.specs.Plans.{plan_of}
use Rattle.kinds.specs.JobTicks.{Gets}
use Rattle.kinds.specs.Sound.{task_fits, pair_key, pair_fits, pattern_key, heading_fits, pattern_fits, opening_fits, sound}
use Rattle.kinds.proofs.SoundFacts.{sound_facts}
use Rattle.laws.specs.Blocks.{NextBlock}
use Rattle.laws.proofs.Blocks.{leads_on}
use Rattle.laws.proofs.JobTicks.{gets_later}
use Rattle.judge.specs.declared.Verdict.TheVariants as verdict
use Rattle.judge.specs.Judgement.{rules, verdict_of}
use Rattle.screen.specs.Findings.{screen_rules, finding_by, finding_of, adjust_rules, adjusted_of}
use Rattle.network.specs.Causes.{room, releases_of, deadlines_of}
use Rattle.network.specs.NetworkLaws.{Made, LinkedJobs, each_made, each_linked}
use Rattle.theorems.specs.Names.{Breach, Names}
use Rattle.theorems.specs.Demand2.{first_rule}

-- ---- the edition is a limit
-- a set as it would be in another edition
abbrev pub in_edition : ℕ → Set → Set
in_edition e s = record { edition = e; processors = s.processors; tasks = s.tasks; patterns = s.patterns }

wider_rises : (low : Key) (la lb lb' x y : ℕ) → lb ≤ lb' → rises low la lb x y ≡ true → rises low la lb' x y ≡ true
unfolding rises
wider_rises low la lb lb' x y l h =
    let w = both {a = holds (first_range low la) x} h in
    let b = holds_at (pick (eqb x low.first) low.second 0) lb y w.1 in
    rw w.0 (holds_yes (pick (eqb x low.first) low.second 0) lb' y b.0 (omega arith))

wider_pattern : (e e' : ℕ) (u : Tasks) (v : Patterns) (k : ℕ) → rounds_of e ≤ rounds_of e'
    → pattern_fits e u v k ≡ true → pattern_fits e' u v k ≡ true
unfolding pattern_fits pair_fits
wider_pattern e e' u v k l h =
    let a : ℕ = first_reach (common u v k) (period u (from_task v k)) in
    let c : ℕ = common u v k / period u (to_task v k) in
    let w = both {a = heading_fits u.count (pattern_key v k) (from_task v k) (to_task v k) (pair_count v k) (pairs_before v k)} h in
    rw w.0
    (all_from (pair_fits v.pairs (pairs_before v k) a (rounds_of e' * c)) (pair_count v k) (λ q lq.
    wider_rises (pair_key v.pairs (pairs_before v k) q) a (rounds_of e * c) (rounds_of e' * c) _ _ (mul-le-mul l (le_refl c))
    (all_at (pair_fits v.pairs (pairs_before v k) a (rounds_of e * c)) (pair_count v k) w.1 q lq)))

-- ==== A set that is sound is so in every known edition that reaches as far: what edition 1 allows edition 2 allows.
pub wider_sound : (s : Set) (e : ℕ) → holds editions e ≡ true → rounds_of s.edition ≤ rounds_of e
    → sound s ≡ true → sound (in_edition e s) ≡ true
unfolding sound opening_fits
wider_sound s e known l h =
    let u : Tasks = s.tasks in
    let v : Patterns = s.patterns in
    let a = both {a = opening_fits s.edition u.count s.processors} h in
    let o = both {a = holds editions s.edition} a.0 in
    let b = both {a = all (task_fits u) u.count} a.1 in
    let c = both {a = cycle_fits u} b.1 in
    let d = both {a = holds pattern_counts v.count} c.1 in
    let w = both {a = all (pattern_fits s.edition u v) v.count} d.1 in
    let z : all (pattern_fits e u v) v.count ≡ true = all_from (pattern_fits e u v) v.count (λ k lk.
    wider_pattern s.edition e u v k l (all_at (pattern_fits s.edition u v) v.count w.0 k lk)) in
    rw (known, o.1, b.0, c.0, d.0, z) w.1

module _ (s : Set) (e : ℕ) (here : sound s ≡ true) (there : sound (in_edition e s) ≡ true) where
  -- ==== A set that is sound in two editions gets the same verdict in both, whatever the plan,
  pub same_verdict : (slots : List ℕ) → verdict_of (in_edition e s) slots ≡ verdict_of s slots
  unfolding verdict_of rules
  same_verdict slots = rw (here, there)

  -- ==== the same finding,
  pub same_finding : finding_of (in_edition e s) ≡ finding_of s
  unfolding finding_by screen_rules room
  same_finding = rw (here, there)

  -- ==== and the same adjusted times.
  pub same_times : (p q : ℕ) → (adjusted_of (in_edition e s) p q ≡ adjusted_of s p q)
      × (releases_of (in_edition e s) ≡ releases_of s)
      × (deadlines_of (in_edition e s) ≡ deadlines_of s)
  unfolding adjusted_of adjust_rules
  same_times p q = (rw (here, there), refl, refl)

-- ---- what the screen uses
-- ==== The network has a link between two jobs exactly where a pair makes one between them within the block: 13 and the adjusted times, which look at nothing
-- else, use just these.
pub just_within : (u : Tasks) (v : Patterns) (x y : ℕ) → Made u v x y ↔ LinkedJobs u v x y
just_within u v x y = (to, from)
  where
    to : Made u v x y → LinkedJobs u v x y
    to w =
        rw (w.from_is, w.to_is) (each_linked u v w.pattern w.pair w.turn w.pattern_low w.pair_low w.turn_low w.within)

    from : LinkedJobs u v x y → Made u v x y
    from w = rw (← w.from_is, ← w.to_is) (each_made u v w.at w.low)

-- ---- what the judge uses
module _ (s : Set) (e : sound s ≡ true) (slots : List ℕ) (k q n : ℕ) (lk : k < s.patterns.count) (lq : q < pair_count s.patterns k)
    (ln : n < repeats s.tasks s.patterns k) (out : inner s.tasks s.patterns k q n ≡ false) where
  abbrev next : NextBlock s.tasks s.patterns k q n
  next = leads_on s (sound_facts s e) k lk q lq n ln out

  -- ==== A link that leaves the block leads to a job of the next; it gets the ticks of the job that it repeats, H later.
  pub gets_next : {c a b : ℕ} → Gets s.tasks (plan_of s slots) (to_task s.patterns k) next.job c a b
      → Gets s.tasks (plan_of s slots) (to_task s.patterns k) (link_to s.tasks s.patterns k q n) c (a + cycle s.tasks) (b + cycle s.tasks)
  gets_next {c} {a} {b} g =
      let f = sound_facts s e in
      let w = gets_later s.tasks (plan_of s slots) (to_task s.patterns k) next.job 1 refl (f.divides (to_task s.patterns k) (f.to_low k lk)) g in
      let x : 1 * jobs_of s.tasks (to_task s.patterns k) ≡ jobs_of s.tasks (to_task s.patterns k) = omega arith in
      let y : 1 * cycle s.tasks ≡ cycle s.tasks = omega arith in
      rw next.is (rw (x, y) at w)

-- ==== Where 23 is answered the evidence names a link of the cycle: k is below H/p.
pub broken_in_cycle : (s : Set) (slots : List ℕ) {k q n : ℕ} → verdict_of s slots ≡ verdict.BrokenLink k q n
    → (k < s.patterns.count) × (q < pair_count s.patterns k) × (n < repeats s.tasks s.patterns k)
unfolding Breach
broken_in_cycle s slots e =
    let w = (subst (Names s slots) e (first_rule s slots)).broken in (w.first_low, w.second_low, w.third_low)
