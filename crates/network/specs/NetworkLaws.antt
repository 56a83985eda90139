-- Laws of the network: where each link comes from, how many there are, and that their ends are jobs of the cycle.
use Rattle.std.specs.Prelude.{◌≡◌, refl, true, ℕ, ◌-◌, ◌<◌, ◌≤◌, ltb, length, get_or}
use Rattle.std.proofs.Common.{ap, ◌∙◌, arith, ltb-true}
use Rattle.vocabulary.proofs.Test.{both}
use Rattle.vocabulary.proofs.Count.{count_le}
use Rattle.vocabulary.proofs.Total.{total_mono}
use Rattle.vocabulary.specs.Table.{table}
use Rattle.vocabulary.proofs.Table.{gather_first, length_table, get_or_table}
use Rattle.vocabulary.specs.Lists.{Stands}
use Rattle.vocabulary.proofs.Lists.{each_join, each_gather, length_join, length_join_most, length_gather, stands_join, stands_gather}
use Rattle.graph.specs.Graph.{LinksInside}
use Rattle.kinds.specs.Tasks.{Tasks, Patterns, Set, from_task, to_task, pair_count}
use Rattle.kinds.specs.Cycle.{jobs, jobs_of}
use Rattle.kinds.specs.Jobs.{number_of_job}
use Rattle.kinds.specs.Links.{link_from, link_to, repeats, links_of, links, inner}
use Rattle.kinds.proofs.SoundFacts.{Sound}
use Rattle.laws.proofs.Order.{number_low}
use Rattle.laws.specs.Blocks.{round_of}
use Rattle.laws.proofs.Blocks.{stays, leaves}
use Rattle.network.specs.Network.{Link, no_link, link_of, pair_links, pattern_links, cycle_links, link_starts, link_ends, network}

-- ---- a pair makes the first of its links, as many as lie within the block
pub pair_links_lem : (s : Set) → Sound s → (k q : ℕ) → k < s.patterns.count → q < pair_count s.patterns k
    → pair_links s.tasks s.patterns k q
    ≡ table (link_of s.tasks s.patterns k q) (repeats s.tasks s.patterns k - round_of s.tasks s.patterns k q)
unfolding pair_links
pair_links_lem s f k q lk lq =
    gather_first (link_of s.tasks s.patterns k q) (inner s.tasks s.patterns k q)
    (repeats s.tasks s.patterns k - round_of s.tasks s.patterns k q) (repeats s.tasks s.patterns k)
    (omega arith) (λ n l. stays s f k lk q lq n (omega arith)) (λ n l. leaves s f k lk q lq n (omega arith))

-- ---- the links within the block are no more than rule 9 counts
pattern_links_few : (u : Tasks) (v : Patterns) (k : ℕ) → length (pattern_links u v k) ≤ links_of u v k
unfolding pattern_links links_of pair_links
pattern_links_few u v k =
    length_join_most (pair_links u v k) (pair_count v k) (repeats u v k)
    (λ q l. omega (arith, length_gather (link_of u v k q) (inner u v k q) (repeats u v k), count_le (inner u v k q) 0 (repeats u v k)))

pub links_few : (u : Tasks) (v : Patterns) → length (cycle_links u v) ≤ links u v
unfolding cycle_links links
links_few u v =
    omega (
      arith,
      length_join (pattern_links u v) v.count,
      total_mono (λ k. length (pattern_links u v k)) (links_of u v) v.count (λ k l. pattern_links_few u v k),
    )

-- ---- where a link comes from
-- a fact of every link, from every pair's
pub each_link : (u : Tasks) (v : Patterns) (P : Link → Type 0)
    → ((k q n : ℕ) → k < v.count → q < pair_count v k → n < repeats u v k → inner u v k q n ≡ true → P (link_of u v k q n)) → (x : ℕ)
    → x < length (cycle_links u v) → P (get_or (cycle_links u v) x no_link)
unfolding cycle_links pattern_links pair_links
each_link u v P h =
    each_join P no_link (pattern_links u v) v.count (λ k lk.
    each_join P no_link (pair_links u v k) (pair_count v k) (λ q lq.
    each_gather P no_link (link_of u v k q) (inner u v k q) (repeats u v k) (λ n ln e. h k q n lk lq ln e)))

pub jobs_of_network : (u : Tasks) (v : Patterns) → (network u v).n ≡ jobs u
unfolding network
jobs_of_network u v = refl

pub links_of_network : (u : Tasks) (v : Patterns) → (network u v).e ≡ length (cycle_links u v)
unfolding network link_starts
links_of_network u v = length_table (λ x. (get_or (cycle_links u v) x no_link).from) (length (cycle_links u v))

-- a link from job x to job y is made by a pattern, one of its pairs, for the n-th time
pub record Made (u : Tasks) (v : Patterns) (x y : ℕ) : Type 0 where
  pub pattern : ℕ
  pub pair : ℕ
  pub turn : ℕ
  pub pattern_low : pattern < v.count
  pub pair_low : pair < pair_count v pattern
  pub turn_low : turn < repeats u v pattern
  pub within : inner u v pattern pair turn ≡ true
  pub from_is : x ≡ number_of_job u (from_task v pattern) (link_from u v pattern pair turn)
  pub to_is : y ≡ number_of_job u (to_task v pattern) (link_to u v pattern pair turn)

-- so is every link of the network
pub each_made : (u : Tasks) (v : Patterns) (x : ℕ) → x < (network u v).e → Made u v ((network u v).from x) ((network u v).to x)
unfolding network link_starts link_ends
each_made u v x l =
    let m : ℕ = length (cycle_links u v) in
    let h : x < m = omega (arith, links_of_network u v) in
    rw (get_or_table (λ y. (get_or (cycle_links u v) y no_link).from) m x 0 h, get_or_table (λ y. (get_or (cycle_links u v) y no_link).to) m x 0 h)
    (each_link u v (λ l. Made u v l.from l.to)
    (λ k q n lk lq ln e. record { pattern = k; pair = q; turn = n; pattern_low = lk; pair_low = lq; turn_low = ln; within = e; from_is = refl; to_is = refl })
    x h)

-- and back: each time that a pair links two jobs of one block, the network has that link
pub record LinkedJobs (u : Tasks) (v : Patterns) (x y : ℕ) : Type 0 where
  pub at : ℕ
  pub low : at < (network u v).e
  pub from_is : (network u v).from at ≡ x
  pub to_is : (network u v).to at ≡ y

pub each_linked : (u : Tasks) (v : Patterns) (k q n : ℕ) → k < v.count → q < pair_count v k → n < repeats u v k → inner u v k q n ≡ true
    → LinkedJobs u v (number_of_job u (from_task v k) (link_from u v k q n)) (number_of_job u (to_task v k) (link_to u v k q n))
unfolding network link_starts link_ends cycle_links pattern_links pair_links
each_linked u v k q n lk lq ln e =
    let m : ℕ = length (cycle_links u v) in
    let w : Stands no_link (cycle_links u v) (link_of u v k q n) =
    stands_join no_link (pattern_links u v) v.count k (link_of u v k q n) lk
    (stands_join no_link (pair_links u v k) (pair_count v k) q (link_of u v k q n) lq
    (stands_gather no_link (link_of u v k q) (inner u v k q) (repeats u v k) n ln e)) in
    record {
      at = w.at;
      low = omega (arith, links_of_network u v, w.low);
      from_is = get_or_table (λ y. (get_or (cycle_links u v) y no_link).from) m w.at 0 w.low ∙ ap (λ (l : Link). l.from) w.is;
      to_is = get_or_table (λ y. (get_or (cycle_links u v) y no_link).to) m w.at 0 w.low ∙ ap (λ (l : Link). l.to) w.is;
    }

-- ---- the ends of a link are jobs of the cycle
pub inner_low : (u : Tasks) (v : Patterns) (k q n : ℕ) → inner u v k q n ≡ true
    → (link_from u v k q n < jobs_of u (from_task v k)) × (link_to u v k q n < jobs_of u (to_task v k))
unfolding inner
inner_low u v k q n e =
    let a = both {a = ltb (link_from u v k q n) (jobs_of u (from_task v k))} e in
    (ltb-true (link_from u v k q n) (jobs_of u (from_task v k)) a.0, ltb-true (link_to u v k q n) (jobs_of u (to_task v k)) a.1)

pub inside_network : (s : Set) → Sound s → LinksInside (network s.tasks s.patterns)
inside_network s f = record { starts = λ x l. (go x l (each_made u v x l)).0; ends = λ x l. (go x l (each_made u v x l)).1 }
  where
    u : Tasks
    u = s.tasks

    v : Patterns
    v = s.patterns

    go : (x : ℕ) → x < (network u v).e → Made u v ((network u v).from x) ((network u v).to x)
        → ((network u v).from x < (network u v).n) × ((network u v).to x < (network u v).n)
    go x l w =
        let k : ℕ = w.pattern in
        let i = inner_low u v k w.pair w.turn w.within in
        rw jobs_of_network (
          rw w.from_is (number_low u (from_task v k) (link_from u v k w.pair w.turn) (f.from_low k w.pattern_low) i.0),
          rw w.to_is (number_low u (to_task v k) (link_to u v k w.pair w.turn) (f.to_low k w.pattern_low) i.1),
        )
