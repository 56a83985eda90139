-- Rule 23 over the table of jobs: it tells what each job gets, and every job gets a tick; then one comparison of two jobs' ends is the rule.
use mathlib.Core.Path.{◌≡◌, refl, sym, ap, ap₂, ◌∙◌}
use mathlib.Core.Bool.{true, false}
use mathlib.Core.List.{List}
use Prim.Native.Nat.{ℕ, ◌+◌, ◌*◌, ◌/◌, ◌%◌, ◌<◌, ◌≤◌}
use native.Mathlib.Nat.{div-le_self, le_of_dvd, mul-le-mul, mod-lt}
use native.Mathlib.Omega.{arith}
use lib.Dec.{leb}
use lib.ListN.{get_or}
use borrow.Author.Tests.{le-leb, lt-leb, lt-ltb}
use Rattle.vocabulary.proofs.Test.{by_false}
use Rattle.vocabulary.specs.First.{first_of, from}
use Rattle.vocabulary.proofs.Total.{total_none, total_more}
use Rattle.std.specs.Prelude.{Some, None}
use Rattle.vocabulary.specs.Least.{least, lowest, Seeking}
use Rattle.vocabulary.proofs.Least.{some_lt, some_ge, hit, miss, some_least}
use Rattle.judge.specs.Searches.{broken_pair_of}
use Rattle.judge.proofs.Searches.{lowest_yes, lowest_no, with_some, with_none}
use Rattle.vocabulary.specs.Multiple.{lcm}
use Rattle.kinds.specs.declared.Pair.{Pair}
use Rattle.kinds.specs.declared.Pattern.{Pattern}
use Rattle.kinds.specs.Limits.{holds}
use Rattle.kinds.specs.Tasks.{Tasks, Patterns, Set, tasks_of, task_at, period, from_task, to_task}
use Rattle.kinds.specs.Tasks.{pair_count, pairs_in, pairs_before, first_in, second_in, pair_in, pair_in_lem, pattern_in, pattern_in_lem}
use Rattle.kinds.specs.Cycle.{cycle, jobs_of, multiple_of}
use Rattle.kinds.specs.Links.{common, link_from, link_to, repeats}
use Rattle.kinds.specs.Plans.{Plan, ticks}
use Rattle.kinds.specs.RangeLaws.{reach_low}
use Rattle.kinds.proofs.SoundFacts.{Sound, some_jobs}
use Rattle.laws.proofs.Repeat.{ticks_again}
use Rattle.judge.specs.declared.Lane.{Lane}
use Rattle.judge.specs.declared.LinkSteps.{LinkSteps}
use Rattle.judge.specs.declared.Verdict.TheVariants as verdict
use Rattle.judge.specs.Rules.{breaks, broken_pair, broken_pattern}
use Rattle.judge.specs.Judgement.{broken_at, plan_rules, verdict_from}
use Rattle.kinds.specs.JobTicks.{Gets}
use Rattle.judge.proofs.Broken.{broken_is}
use Rattle.judge.specs.TableNeeds.{PlanNeeds, lane_of, lane_in, Tells, steps_of, StepsNeeds, stride, PairOf, PatternOf, LinkNeeds}
use Rattle.judge.proofs.LaneLaws.{lane_tells}
use Rattle.judge.proofs.CountLaws.{lane_is}

module _ (h : ℕ) (xs bs : List ℕ) (x y : ℕ) {a b : Lane} (ea : a ≡ lane_of h xs bs x) (eb : b ≡ lane_of h xs bs y) where
  pub from_period : a.task.period ≡ (task_at xs x).period
  unfolding lane_of
  from_period = ap (λ (l : Lane). l.task.period) ea

  pub to_period : b.task.period ≡ (task_at xs y).period
  unfolding lane_of
  to_period = ap (λ (l : Lane). l.task.period) eb

  module _ {p : ℕ} (ep : p ≡ multiple_of a.task.period b.task.period) where
    pub whole_is : p ≡ multiple_of (task_at xs x).period (task_at xs y).period
    whole_is = ep ∙ ap₂ multiple_of from_period to_period

    abbrev steps_by : Lane → Lane → LinkSteps
    steps_by l r =
        let c : ℕ = multiple_of l.task.period r.task.period in
        record { from = l; to = r; first = c / l.task.period; second = c / r.task.period; rounds = h / c }

    pub steps_is : record { from = a; to = b; first = p / a.task.period; second = p / b.task.period; rounds = h / p } ≡ steps_of h xs bs x y
    unfolding steps_of lane_of
    steps_is = rw ep (ap₂ steps_by ea eb)

-- ---- one pair
module _ {ps : List ℕ} {rows : List (List ℕ)} {g : LinkSteps} {x : ℕ} (w : PairOf ps rows g x) where
  abbrev u : Tasks
  u = w.tasks

  abbrev v : Patterns
  v = w.patterns

  abbrev p : Plan
  p = w.plan

  abbrev k : ℕ
  k = w.pattern

  abbrev q : ℕ
  q = w.pair

  abbrev s : Set
  s = record { edition = w.all_ran.needs.edition; processors = p.processors; tasks = u; patterns = v }

  abbrev f : Sound s
  f = w.all_ran.needs.sound

  pair_place : x < 1024
  pair_place = omega (arith, w.place, w.inside, f.room k w.low)

  -- The pair's two numbers.
  pub pair_is : {m : Pair} → m ≡ pair_in ps x → (m.first ≡ first_in ps x) × (m.second ≡ second_in ps x)
  pair_is e = let z = e ∙ pair_in_lem ps x pair_place in (ap (λ (m : Pair). m.first) z, ap (λ (m : Pair). m.second) z)

  rounds_are : g.rounds ≡ repeats u v k
  unfolding stride
  rounds_are = ap (λ (s : LinkSteps). s.rounds) w.steps

  pub rounds_few : g.rounds ≤ 6000
  unfolding repeats
  rounds_few = omega (arith, rounds_are, div-le_self (cycle u) (common u v k), f.low_cycle)

  pub rounds_low : {n : ℕ} → n < g.rounds → n < repeats w.tasks w.patterns w.pattern
  rounds_low l = omega (arith, rounds_are)

  pub rounds_high : {n : ℕ} → g.rounds ≤ n → repeats w.tasks w.patterns w.pattern ≤ n
  rounds_high l = omega (arith, rounds_are)

  -- The two tasks' jobs.
  pub from_is : g.from ≡ lane_in w.tasks (from_task w.patterns w.pattern)
  unfolding stride
  from_is = ap (λ (s : LinkSteps). s.from) w.steps

  pub to_is : g.to ≡ lane_in w.tasks (to_task w.patterns w.pattern)
  unfolding stride
  to_is = ap (λ (s : LinkSteps). s.to) w.steps

  abbrev pub pair_from : Tells rows g.from
  pair_from = lane_tells w.all_ran.tallied (w.all_ran.needs.sound.from_low w.pattern w.low) from_is

  abbrev pub pair_to : Tells rows g.to
  pair_to = lane_tells w.all_ran.tallied (w.all_ran.needs.sound.to_low w.pattern w.low) to_is

  strides_low : (g.first ≤ 6000) × (g.second ≤ 6000)
  unfolding stride
  strides_low =
      let c : common u v k ≤ 6000 = omega (arith, le_of_dvd f.some_cycle (f.whole k w.low), f.low_cycle) in (
        omega (arith, ap (λ (s : LinkSteps). s.first) w.steps, div-le_self (common u v k) (period u (from_task v k))),
        omega (arith, ap (λ (s : LinkSteps). s.second) w.steps, div-le_self (common u v k) (period u (to_task v k))),
      )

  pair_low : (first_in ps x ≤ 6000) × (second_in ps x ≤ 12000)
  unfolding stride
  pair_low =
      let a : first_in v.pairs (pairs_before v k + q) ≡ first_in ps x = ap₂ first_in w.pairs (sym w.place) in
      let b : second_in v.pairs (pairs_before v k + q) ≡ second_in ps x = ap₂ second_in w.pairs (sym w.place) in (
        omega (arith, a, f.first_low k q w.low w.inside, ap (λ (s : LinkSteps). s.first) w.steps, strides_low.0),
        omega (
          arith,
          b,
          f.second_low k q w.low w.inside,
          reach_low w.all_ran.needs.edition (common u v k / period u (to_task v k)) refl
              (omega (arith, ap (λ (s : LinkSteps). s.second) w.steps, strides_low.1)),
        ),
      )

  -- Not only the jobs of the cycle get a tick: every job gets what the one gets that it repeats.
  any_ran : (i l : ℕ) → i < u.count → 0 < ticks u p i l
  any_ran i l h =
      omega (
        arith,
        ticks_again u p i l w.all_ran.needs.ticks (f.divides i h),
        w.all_ran.ran i (l % jobs_of u i) h (mod-lt l (some_jobs s f i h)),
      )

  -- The search has come to link n, which links job i to job j, perhaps past the cycle.
  module _ {n i j : ℕ} (ei : i ≡ first_in ps x + n * g.first) (ej : j ≡ second_in ps x + n * g.second) (l : n < g.rounds) where
    is_from : i ≡ link_from u v k q n
    unfolding link_from stride
    is_from = ei ∙ ap₂ ◌+◌ (ap₂ first_in (sym w.pairs) w.place) (ap (λ (s : LinkSteps). n * s.first) w.steps)

    is_to : j ≡ link_to u v k q n
    unfolding link_to stride
    is_to = ej ∙ ap₂ ◌+◌ (ap₂ second_in (sym w.pairs) w.place) (ap (λ (s : LinkSteps). n * s.second) w.steps)

    pub pair_jobs : (i ≤ 36006000) × (j ≤ 36012000) × (g.first ≤ 6000) × (g.second ≤ 6000)
    pair_jobs =
        let few : n ≤ 6000 = omega (arith, rounds_few) in
        let a = mul-le-mul few strides_low.0 in
        let b = mul-le-mul few strides_low.1 in
        (omega (arith, ei, pair_low.0), omega (arith, ej, pair_low.1), strides_low.0, strides_low.1)

    module _ {c a b c' a' b' : ℕ} (from : Gets u p (from_task v k) i c a b) (to : Gets u p (to_task v k) j c' a' b') where
      link_is : leb a' b ≡ breaks u v p k q n
      unfolding breaks
      link_is =
          let r = any_ran (from_task v k) i (f.from_low k w.low) in
          let t = any_ran (to_task v k) j (f.to_low k w.low) in
          broken_is u p (from_task v k) i (to_task v k) j _ _ _ _ _ _ from (omega (arith, from.number, r)) to (omega (arith, to.number, t))
          ∙ rw (is_from, is_to)

      pub link_yes : a' ≤ b → breaks w.tasks w.patterns w.plan w.pattern w.pair n ≡ true
      link_yes m = sym link_is ∙ le-leb a' b m

      pub link_no : b < a' → breaks w.tasks w.patterns w.plan w.pattern w.pair n ≡ false
      link_no m = sym link_is ∙ lt-leb a' b m

  -- What the search tells of the pair.
  pub pair_yes : {r : ℕ} → Some r ≡ lowest (breaks w.tasks w.patterns w.plan w.pattern w.pair) (repeats w.tasks w.patterns w.pattern)
      → (broken_pair w.tasks w.patterns w.plan w.pattern w.pair ≡ true)
      × (r ≡ least (breaks w.tasks w.patterns w.plan w.pattern w.pair) (repeats w.tasks w.patterns w.pattern))
  unfolding broken_pair
  pair_yes {r} e = (lowest_yes _ _ e, (some_least (breaks u v p k q) (repeats u v k) r e).0)

  pub pair_no : None ≡ lowest (breaks w.tasks w.patterns w.plan w.pattern w.pair) (repeats w.tasks w.patterns w.pattern)
      → broken_pair w.tasks w.patterns w.plan w.pattern w.pair ≡ false
  unfolding broken_pair
  pair_no e = lowest_no _ _ e

-- ---- the pairs of one pattern
module _ {ps : List ℕ} {rows : List (List ℕ)} {g : LinkSteps} {s n : ℕ} (w : PatternOf ps rows g s n) where
  pub pairs_room : s + n ≤ 1024
  pairs_room = omega (arith, w.start, w.count, w.all_ran.needs.sound.room w.pattern w.low)

  module _ {q : ℕ} (l : q < n) where
    pub in_pattern : (q < pair_count w.patterns w.pattern) × (s + q ≡ pairs_before w.patterns w.pattern + q)
    in_pattern = (omega (arith, w.count), omega (arith, w.start))

    abbrev pub pattern_pair : PairOf ps rows g (s + q)
    pattern_pair =
        record {
          tasks = w.tasks;
          patterns = w.patterns;
          plan = w.plan;
          pattern = w.pattern;
          pair = q;
          all_ran = w.all_ran;
          pairs = w.pairs;
          steps = w.steps;
          low = w.low;
          inside = in_pattern.0;
          place = in_pattern.1;
        }

-- ---- all patterns
multiple_is : (a b : ℕ) → 0 < a → a ≤ 6000 → 0 < b → b ≤ 6000 → multiple_of a b ≡ lcm a b
unfolding multiple_of holds
multiple_is a b pa la pb lb =
    rw (le-leb 1 a pa, lt-ltb a 6001 (omega arith), le-leb 1 b pb, lt-ltb b 6001 (omega arith))

-- Where the pairs of the next pattern begin.
pub start_from : (hs : List ℕ) → 0 ≡ pairs_in hs 0
unfolding pairs_in
start_from hs = sym (total_none (λ j. get_or hs (3 * j + 2) 0))

pub start_on : (hs : List ℕ) (k : ℕ) {s n : ℕ} → s ≡ pairs_in hs k → n ≡ get_or hs (3 * k + 2) 0 → s + n ≡ pairs_in hs (k + 1)
unfolding pairs_in
start_on hs k es en = omega (arith, es, en, total_more (λ j. get_or hs (3 * j + 2) 0) k)

module _ {n h : ℕ} {xs bs : List ℕ} {v : Patterns} {rows : List (List ℕ)} (w : LinkNeeds n h xs bs v rows) {k : ℕ} (l : k < v.count) where
  abbrev t : Tasks
  t = tasks_of n xs

  abbrev a : PlanNeeds t v w.counted.plan
  a = w.counted.needs

  abbrev e : Sound (record { edition = a.edition; processors = w.counted.plan.processors; tasks = t; patterns = v })
  e = a.sound

  pub pattern_few : k < 64
  pattern_few = omega (arith, e.few_patterns)

  common_is : multiple_of (period t (from_task v k)) (period t (to_task v k)) ≡ common t v k
  unfolding common
  common_is =
      let x = e.from_low k l in
      let y = e.to_low k l in
      multiple_is (period t (from_task v k)) (period t (to_task v k))
      (e.some_period (from_task v k) x) (e.low_period (from_task v k) x) (e.some_period (to_task v k) y) (e.low_period (to_task v k) y)

  -- The heading, as the code reads it.
  module _ {m : Pattern} (em : m ≡ pattern_in v.headings k) where
    pub heading_is : (m.from ≡ from_task v k) × (m.to ≡ to_task v k) × (m.pairs ≡ pair_count v k)
    heading_is =
        let z = em ∙ pattern_in_lem v.headings k pattern_few in
        (ap (λ (m : Pattern). m.from) z, ap (λ (m : Pattern). m.to) z, ap (λ (m : Pattern). m.pairs) z)

    pub steps_needs : StepsNeeds xs m.from m.to
    steps_needs =
        rw (heading_is.0, heading_is.1)
        (record {
          from_few = omega (arith, e.from_low k l, e.few_tasks);
          to_few = omega (arith, e.to_low k l, e.few_tasks);
          some_from = e.some_period (from_task v k) (e.from_low k l);
          some_to = e.some_period (to_task v k) (e.to_low k l);
          some_whole = rw common_is (e.some_common k l);
        })

    pub steps_are : steps_of h xs bs m.from m.to ≡ stride t v k
    unfolding steps_of stride repeats
    steps_are =
        let a = lane_is w.counted (e.from_low k l) refl in
        let b = lane_is w.counted (e.to_low k l) refl in
        rw (heading_is.0, heading_is.1, common_is, a, b)
        (ap (λ (z : ℕ). record {
          from = lane_in t (from_task v k);
          to = lane_in t (to_task v k);
          first = common t v k / period t (from_task v k);
          second = common t v k / period t (to_task v k);
          rounds = z / common t v k;
        }) (sym w.counted.ticks ∙ w.counted.needs.ticks))

    abbrev pub pattern_of : {g : LinkSteps} {s : ℕ} → g ≡ steps_of h xs bs m.from m.to → s ≡ pairs_before v k → PatternOf v.pairs rows g s m.pairs
    pattern_of eg es =
        record {
          tasks = tasks_of n xs;
          patterns = v;
          plan = w.counted.plan;
          pattern = k;
          all_ran = w.all_ran;
          pairs = refl;
          steps = eg ∙ steps_are;
          low = l;
          start = es;
          count = heading_is.2;
        }

-- ---- what the searches tell of the pattern, and of all
module _ (u : Tasks) (v : Patterns) (p : Plan) (k : ℕ) {n : ℕ} (en : n ≡ pair_count v k) where
  pub pattern_no : None ≡ broken_pair_of u v p k n → broken_pattern u v p k ≡ false
  unfolding broken_pattern
  pattern_no e = with_none (broken_pair u v p k) _ (pair_count v k) (e ∙ ap (broken_pair_of u v p k) en)

  module _ {q r : ℕ} (e : Some (q, r) ≡ broken_pair_of u v p k n) where
    pub found_low : q < n
    found_low = (with_some (broken_pair u v p k) _ n e).1

    pub link_found : Seeking (broken_pattern u v p) v.count k → k < v.count → verdict.BrokenLink k q r ≡ verdict_from 23 u v p
    unfolding verdict_from plan_rules from first_of broken_at broken_pattern
    link_found w l =
        let z = with_some (broken_pair u v p k) _ (pair_count v k) (e ∙ ap (broken_pair_of u v p k) en) in
        let b = some_lt (broken_pair u v p k) (pair_count v k) q z.0 z.1 in
        let y : k ≡ least (broken_pattern u v p) v.count = hit _ _ k w b in
        rw (some_lt (broken_pattern u v p) v.count k y l, ← y, ← z.0, ← z.3)

pub links_end : (u : Tasks) (v : Patterns) (p : Plan) (k : ℕ) → Seeking (broken_pattern u v p) v.count k → v.count ≤ k
    → verdict.Accepted ≡ verdict_from 23 u v p
unfolding verdict_from plan_rules from first_of
links_end u v p k w l = by_false (broken_at u v p) verdict.Accepted (some_ge (broken_pattern u v p) v.count k (miss _ _ k w l) l)
