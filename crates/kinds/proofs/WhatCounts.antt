-- Entries beyond the counts change no answer: sets that agree below their counts are sound alike, and have one cycle, its jobs and its links.
use mathlib.Core.Path.{◌≡◌, refl, ap, ap₂, ◌∙◌}
use mathlib.Core.Bool.{Bool, true, false, ◌&&◌}
use mathlib.Core.List.{List}
use Prim.Native.Nat.{ℕ, zero, suc, ◌+◌, ◌*◌, ◌/◌, ◌<◌, ◌≤◌}
use native.Mathlib.Omega.{arith}
use lib.Dec.{leb}
use lib.ListN.{get_or}
use Rattle.vocabulary.proofs.Test.{both}
use Rattle.vocabulary.specs.Least.{all}
use Rattle.vocabulary.proofs.Least.{all_at, all_same}
use Rattle.vocabulary.specs.Total.{total}
use Rattle.vocabulary.proofs.Total.{total_same, total_up}
use Rattle.vocabulary.specs.Multiple.{lcm, lcm_of}
use Rattle.vocabulary.proofs.Multiple.{lcm_of_same}
use Rattle.kinds.specs.declared.Key.{Key}
use Rattle.kinds.specs.Limits.{holds, pattern_counts, rises, after}
use Rattle.kinds.specs.Tasks.{Set, period, from_task, to_task, pair_count, pairs_in, pairs_before, first_in, second_in}
use Rattle.kinds.specs.Cycle.{cycle, jobs_of, jobs_before, jobs, cycle_fits}
use Rattle.kinds.specs.Links.{common, first_reach, reach, repeats, links_of, links}
use Rattle.kinds.specs.Sound.{task_fits, pair_key, pair_fits, pattern_key, heading_fits, pattern_fits, opening_fits, sound}
use Rattle.kinds.proofs.PatternWalk.{heading_facts, before_more}

-- The counts are equal, and so are the tables below them.
pub record Agree (s t : Set) : Type 0 where
  pub edition : s.edition ≡ t.edition
  pub processors : s.processors ≡ t.processors
  pub task_count : s.tasks.count ≡ t.tasks.count
  pub attributes : (x : ℕ) → x < 4 * s.tasks.count → get_or s.tasks.attributes x 0 ≡ get_or t.tasks.attributes x 0
  pub pattern_count : s.patterns.count ≡ t.patterns.count
  pub headings : (x : ℕ) → x < 3 * s.patterns.count → get_or s.patterns.headings x 0 ≡ get_or t.patterns.headings x 0
  pub pairs : (x : ℕ) → x < 2 * pairs_before s.patterns s.patterns.count → get_or s.patterns.pairs x 0 ≡ get_or t.patterns.pairs x 0

-- ---- pairs that agree are in order alike
record Alike (ps rs : List ℕ) (start n : ℕ) : Type 0 where
  first : (q : ℕ) → q < n → first_in ps (start + q) ≡ first_in rs (start + q)
  second : (q : ℕ) → q < n → second_in ps (start + q) ≡ second_in rs (start + q)

pair_key_same : (ps rs : List ℕ) (start n q : ℕ) → q < n → Alike ps rs start n → pair_key ps start q ≡ pair_key rs start q
unfolding pair_key
pair_key_same ps rs start n zero l f = refl
pair_key_same ps rs start n (suc q) l f = ap₂ (λ (a b : ℕ). after a b) (f.first q (omega arith)) (f.second q (omega arith))

pairs_same : (ps rs : List ℕ) (start a b n : ℕ) → Alike ps rs start n → all (pair_fits ps start a b) n ≡ all (pair_fits rs start a b) n
unfolding pair_fits
pairs_same ps rs start a b n f =
    all_same (pair_fits ps start a b) (pair_fits rs start a b) n
    (λ q l. ap (λ (k : Key). rises k a b (first_in ps (start + q)) (second_in ps (start + q))) (pair_key_same ps rs start n q l f) ∙ ap₂ (rises (pair_key rs start q) a b) (f.first q l) (f.second q l))

pairs_test : (ps : List ℕ) {b b' p p' r r' n n' : ℕ} → b ≡ b' → p ≡ p' → r ≡ r' → n ≡ n' → all (pair_fits ps b p r) n ≡ all (pair_fits ps b' p' r') n'
pairs_test ps e f g h = rw (e, f, g, h)

heading_test : {n n' : ℕ} {k k' : Key} {x x' y y' c c' b b' : ℕ} → n ≡ n' → k ≡ k' → x ≡ x' → y ≡ y' → c ≡ c' → b ≡ b' → heading_fits n k x y c b ≡ heading_fits n' k' x' y' c' b'
heading_test e f g h i j = rw (e, f, g, h, i, j)

-- Where the first test fails the second counts for nothing.
and_same : (a b c d : Bool) → a ≡ c → (a ≡ true → b ≡ d) → (a && b) ≡ (c && d)
and_same true b c d e f = ap₂ ◌&&◌ e (f refl)
and_same false b c d e f = ap (λ (x : Bool). x && d) e

module _ (s t : Set) (g : Agree s t) where
  -- ---- the entries of one task and of one pattern
  period_agree : (i : ℕ) → i < s.tasks.count → period s.tasks i ≡ period t.tasks i
  period_agree i l = g.attributes (4 * i) (omega arith)

  from_same : (k : ℕ) → k < s.patterns.count → from_task s.patterns k ≡ from_task t.patterns k
  from_same k l = g.headings (3 * k) (omega arith)

  to_same : (k : ℕ) → k < s.patterns.count → to_task s.patterns k ≡ to_task t.patterns k
  to_same k l = g.headings (3 * k + 1) (omega arith)

  length_same : (k : ℕ) → k < s.patterns.count → pair_count s.patterns k ≡ pair_count t.patterns k
  length_same k l = g.headings (3 * k + 2) (omega arith)

  -- ---- the cycle and its jobs
  pub cycle_agree : cycle s.tasks ≡ cycle t.tasks
  unfolding cycle
  cycle_agree =
      lcm_of_same (λ i. period s.tasks i) (λ i. period t.tasks i) s.tasks.count period_agree
      ∙ ap (lcm_of (λ i. period t.tasks i)) g.task_count

  pub jobs_of_agree : (i : ℕ) → i < s.tasks.count → jobs_of s.tasks i ≡ jobs_of t.tasks i
  unfolding jobs_of
  jobs_of_agree i l = ap₂ ◌/◌ cycle_agree (period_agree i l)

  pub jobs_before_agree : (i : ℕ) → i ≤ s.tasks.count → jobs_before s.tasks i ≡ jobs_before t.tasks i
  unfolding jobs_before
  jobs_before_agree i l = total_same (jobs_of s.tasks) (jobs_of t.tasks) i (λ j h. jobs_of_agree j (omega arith))

  pub jobs_agree : jobs s.tasks ≡ jobs t.tasks
  unfolding jobs
  jobs_agree = jobs_before_agree s.tasks.count (omega arith) ∙ ap (jobs_before t.tasks) g.task_count

  -- ---- patterns
  pub before_agree : (k : ℕ) → k ≤ s.patterns.count → pairs_before s.patterns k ≡ pairs_before t.patterns k
  unfolding pairs_in
  before_agree k l = total_same (λ j. pair_count s.patterns j) (λ j. pair_count t.patterns j) k (λ j h. length_same j (omega arith))

  key_agree : (k : ℕ) → k < s.patterns.count → pattern_key s.patterns k ≡ pattern_key t.patterns k
  unfolding pattern_key
  key_agree zero l = refl
  key_agree (suc k) l = ap₂ (λ (a b : ℕ). after a b) (from_same k (omega arith)) (to_same k (omega arith))

  -- The pairs of pattern k lie below the count of all.
  within : (k q : ℕ) → k < s.patterns.count → q < pair_count s.patterns k → pairs_before s.patterns k + q < pairs_before s.patterns s.patterns.count
  unfolding pairs_in
  within k q l h =
      let T : ℕ → ℕ = λ j. pair_count s.patterns j in
      omega (arith, before_more s.patterns k, total_up T (k + 1) s.patterns.count (omega arith))

  module _ (k : ℕ) (l : k < s.patterns.count) where
    heading_agree : heading_fits s.tasks.count (pattern_key s.patterns k) (from_task s.patterns k) (to_task s.patterns k) (pair_count s.patterns k) (pairs_before s.patterns k)
        ≡ heading_fits t.tasks.count (pattern_key t.patterns k) (from_task t.patterns k) (to_task t.patterns k) (pair_count t.patterns k) (pairs_before t.patterns k)
    heading_agree = heading_test g.task_count (key_agree k l) (from_same k l) (to_same k l) (length_same k l) (before_agree k (omega arith))

    -- The rest is compared only where the pattern's tasks are tasks of the set: a period beyond the count may differ.
    module _ (from : from_task s.patterns k < s.tasks.count) (to : to_task s.patterns k < s.tasks.count) where
      from_agree : period s.tasks (from_task s.patterns k) ≡ period t.tasks (from_task t.patterns k)
      from_agree = period_agree (from_task s.patterns k) from ∙ ap (λ (i : ℕ). period t.tasks i) (from_same k l)

      to_agree : period s.tasks (to_task s.patterns k) ≡ period t.tasks (to_task t.patterns k)
      to_agree = period_agree (to_task s.patterns k) to ∙ ap (λ (i : ℕ). period t.tasks i) (to_same k l)

      pub common_agree : common s.tasks s.patterns k ≡ common t.tasks t.patterns k
      unfolding common
      common_agree = ap₂ lcm from_agree to_agree

      pub links_of_agree : links_of s.tasks s.patterns k ≡ links_of t.tasks t.patterns k
      unfolding links_of repeats
      links_of_agree = ap₂ ◌*◌ (length_same k l) (ap₂ ◌/◌ cycle_agree common_agree)

      pairs_agree : all (pair_fits s.patterns.pairs (pairs_before s.patterns k) (first_reach (common s.tasks s.patterns k) (period s.tasks (from_task s.patterns k))) (reach s.edition (common s.tasks s.patterns k) (period s.tasks (to_task s.patterns k)))) (pair_count s.patterns k)
          ≡ all (pair_fits t.patterns.pairs (pairs_before t.patterns k) (first_reach (common t.tasks t.patterns k) (period t.tasks (from_task t.patterns k))) (reach t.edition (common t.tasks t.patterns k) (period t.tasks (to_task t.patterns k)))) (pair_count t.patterns k)
      pairs_agree =
          pairs_same s.patterns.pairs t.patterns.pairs (pairs_before s.patterns k)
          (first_reach (common s.tasks s.patterns k) (period s.tasks (from_task s.patterns k)))
          (reach s.edition (common s.tasks s.patterns k) (period s.tasks (to_task s.patterns k)))
          (pair_count s.patterns k)
          (record {
            first = λ q h. g.pairs (2 * (pairs_before s.patterns k + q)) (omega (arith, within k q l h));
            second = λ q h. g.pairs (2 * (pairs_before s.patterns k + q) + 1) (omega (arith, within k q l h));
          })
          ∙ pairs_test t.patterns.pairs (before_agree k (omega arith)) (ap₂ (λ (p x : ℕ). first_reach p x) common_agree from_agree)
          (ap (λ (e : ℕ). reach e (common s.tasks s.patterns k) (period s.tasks (to_task s.patterns k))) g.edition
          ∙ ap₂ (λ (p x : ℕ). reach t.edition p x) common_agree to_agree)
          (length_same k l)

    pattern_agree : pattern_fits s.edition s.tasks s.patterns k ≡ pattern_fits t.edition t.tasks t.patterns k
    unfolding pattern_fits
    pattern_agree =
        and_same _ _ _ _ heading_agree
        (λ e. let f = heading_facts s.tasks.count (pattern_key s.patterns k) (from_task s.patterns k) (to_task s.patterns k) (pair_count s.patterns k) (pairs_before s.patterns k) e in
        pairs_agree f.from_low f.to_low)

  patterns_agree : all (pattern_fits s.edition s.tasks s.patterns) s.patterns.count ≡ all (pattern_fits t.edition t.tasks t.patterns) t.patterns.count
  patterns_agree =
      all_same (pattern_fits s.edition s.tasks s.patterns) (pattern_fits t.edition t.tasks t.patterns) s.patterns.count pattern_agree
      ∙ ap (all (pattern_fits t.edition t.tasks t.patterns)) g.pattern_count

  -- So are the links.
  pub links_agree : ((k : ℕ) → k < s.patterns.count → (from_task s.patterns k < s.tasks.count) × (to_task s.patterns k < s.tasks.count)) → links s.tasks s.patterns ≡ links t.tasks t.patterns
  unfolding links
  links_agree h =
      total_same (links_of s.tasks s.patterns) (links_of t.tasks t.patterns) s.patterns.count (λ k l. let w = h k l in links_of_agree k l w.0 w.1)
      ∙ ap (total (links_of t.tasks t.patterns)) g.pattern_count

  tasks_known : all (pattern_fits s.edition s.tasks s.patterns) s.patterns.count ≡ true → (k : ℕ) → k < s.patterns.count → (from_task s.patterns k < s.tasks.count) × (to_task s.patterns k < s.tasks.count)
  unfolding pattern_fits
  tasks_known e k l =
      let f = heading_facts s.tasks.count (pattern_key s.patterns k) (from_task s.patterns k) (to_task s.patterns k) (pair_count s.patterns k) (pairs_before s.patterns k)
      (both (all_at (pattern_fits s.edition s.tasks s.patterns) s.patterns.count e k l)).0 in
      (f.from_low, f.to_low)

  task_agree : (i : ℕ) → i < s.tasks.count → task_fits s.tasks i ≡ task_fits t.tasks i
  unfolding task_fits
  task_agree i l =
      rw (g.attributes (4 * i) (omega arith), g.attributes (4 * i + 1) (omega arith), g.attributes (4 * i + 2) (omega arith), g.attributes (4 * i + 3) (omega arith))

  tasks_agree : all (task_fits s.tasks) s.tasks.count ≡ all (task_fits t.tasks) t.tasks.count
  tasks_agree =
      all_same (task_fits s.tasks) (task_fits t.tasks) s.tasks.count task_agree ∙ ap (all (task_fits t.tasks)) g.task_count

  opening_agree : opening_fits s.edition s.tasks.count s.processors ≡ opening_fits t.edition t.tasks.count t.processors
  opening_agree = rw (g.edition, g.task_count, g.processors)

  cycle_fits_agree : cycle_fits s.tasks ≡ cycle_fits t.tasks
  unfolding cycle_fits
  cycle_fits_agree = ap₂ (λ (h n : ℕ). leb h 6000 && leb n 2048) cycle_agree jobs_agree

  pub sound_agree : sound s ≡ sound t
  unfolding sound
  sound_agree =
      ap₂ ◌&&◌ opening_agree
      (ap₂ ◌&&◌ tasks_agree
      (ap₂ ◌&&◌ cycle_fits_agree
      (ap₂ ◌&&◌ (ap (holds pattern_counts) g.pattern_count)
      (and_same _ _ _ _ patterns_agree (λ e. ap (λ (n : ℕ). leb n 4096) (links_agree (tasks_known e)))))))
