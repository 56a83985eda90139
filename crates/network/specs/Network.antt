-- Rule R8.1: the jobs of a cycle and the links between them, as a graph: jobs by their number, links one after another.
use Rattle.std.specs.Prelude.{List, ℕ, length, get_or}
use Rattle.vocabulary.specs.Table.{table, join, gather}
use Rattle.graph.specs.Graph.{Graph, graph_of}
use Rattle.kinds.specs.Tasks.{Tasks, Patterns, from_task, to_task, pair_count}
use Rattle.kinds.specs.Cycle.{jobs}
use Rattle.kinds.specs.Jobs.{number_of_job}
use Rattle.kinds.specs.Links.{link_from, link_to, repeats, inner}

pub record Link : Type 0 where
  pub from : ℕ
  pub to : ℕ

abbrev pub no_link : Link
no_link = record { from = 0; to = 0 }

-- the n-th link of pair q of pattern k
abbrev pub link_of : Tasks → Patterns → ℕ → ℕ → ℕ → Link
link_of u v k q n =
    record { from = number_of_job u (from_task v k) (link_from u v k q n); to = number_of_job u (to_task v k) (link_to u v k q n) }

-- those of one pair, of one pattern, and of all that lie within one block of H
unfoldable pub pair_links : Tasks → Patterns → ℕ → ℕ → List Link
pair_links u v k q = gather (link_of u v k q) (inner u v k q) (repeats u v k)

unfoldable pub pattern_links : Tasks → Patterns → ℕ → List Link
pattern_links u v k = join (pair_links u v k) (pair_count v k)

unfoldable pub cycle_links : Tasks → Patterns → List Link
cycle_links u v = join (pattern_links u v) v.count

-- as two lists
unfoldable pub link_starts : Tasks → Patterns → List ℕ
link_starts u v = table (λ x. (get_or (cycle_links u v) x no_link).from) (length (cycle_links u v))

unfoldable pub link_ends : Tasks → Patterns → List ℕ
link_ends u v = table (λ x. (get_or (cycle_links u v) x no_link).to) (length (cycle_links u v))

unfoldable pub network : Tasks → Patterns → Graph
network u v = graph_of (link_starts u v) (link_ends u v) (jobs u)
