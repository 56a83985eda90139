-- Patterns, pairs and the links that they make.
use Rattle.std.specs.Prelude.{Bool, ◌&&◌, ℕ, ◌+◌, ◌*◌, ◌/◌, ltb, eqb}
use Rattle.vocabulary.specs.Test.{pick}
use Rattle.vocabulary.specs.Total.{total}
use Rattle.vocabulary.specs.Multiple.{lcm}
use Rattle.kinds.specs.declared.Spans.{Spans}
use Rattle.kinds.specs.Limits.{holds, periods}
use Rattle.kinds.specs.Editions.{rounds_of}
use Rattle.kinds.specs.Tasks.{Tasks, Patterns, period, from_task, to_task, pair_count, pair_first, pair_second}
use Rattle.kinds.specs.Cycle.{cycle, jobs_of}

-- Rule R2.2: p of pattern k.
unfoldable pub common : Tasks → Patterns → ℕ → ℕ
common u v k = lcm (period u (from_task v k)) (period u (to_task v k))

-- Rule R2.4: how far a pair's first number may go,
abbrev pub first_reach : ℕ → ℕ → ℕ
first_reach p t = p / t

-- and its second, by the edition: p/Tj in edition 1, 2·p/Tj in edition 2
abbrev pub reach : ℕ → ℕ → ℕ → ℕ
reach e p t = rounds_of e * (p / t)

-- Rule R2.3: the two jobs that pair q of pattern k links for the n-th time, n = 0, 1, 2 and so on
unfoldable pub link_from : Tasks → Patterns → ℕ → ℕ → ℕ → ℕ
link_from u v k q n = pair_first v k q + n * (common u v k / period u (from_task v k))

unfoldable pub link_to : Tasks → Patterns → ℕ → ℕ → ℕ → ℕ
link_to u v k q n = pair_second v k q + n * (common u v k / period u (to_task v k))

-- Rule R2.5: how often pattern k's pairs link jobs of one cycle; only these are counted, and shown as evidence
unfoldable pub repeats : Tasks → Patterns → ℕ → ℕ
repeats u v k = cycle u / common u v k

-- the links of a cycle
unfoldable pub links_of : Tasks → Patterns → ℕ → ℕ
links_of u v k = pair_count v k * repeats u v k

unfoldable pub links : Tasks → Patterns → ℕ
links u v = total (links_of u v) v.count

-- both jobs of a link lie in the cycle, which is one block of H. In edition 1 every link of a cycle does; in edition 2 a pair's last may lead into the next
-- block
unfoldable pub inner : Tasks → Patterns → ℕ → ℕ → ℕ → Bool
inner u v k q n = ltb (link_from u v k q n) (jobs_of u (from_task v k)) && ltb (link_to u v k q n) (jobs_of u (to_task v k))

-- ---- what the functions over lent tables answer
-- two periods' common multiple, and how far the numbers of a pair may go; all 0 where one of the two is no period
unfoldable pub spans_of : ℕ → ℕ → ℕ → Spans
spans_of e s t =
    pick (holds periods s && holds periods t) (record { whole = lcm s t; first = first_reach (lcm s t) s; second = reach e (lcm s t) t })
    (record { whole = 0; first = 0; second = 0 })

-- the links that n pairs make in h ticks, where p is the common multiple of the periods; 0 where p is
unfoldable pub links_in : ℕ → ℕ → ℕ → ℕ
links_in n h p = pick (eqb p 0) 0 (n * (h / p))
