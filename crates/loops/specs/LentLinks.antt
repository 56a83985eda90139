-- Links between jobs in rows that are lent, and the rows to search in.
use Rattle.std.specs.Prelude.{Bool, ◌&&◌, List, [], ℕ, eqb, leb, ltb, length, get_or, Option, None}
use Rattle.vocabulary.specs.Test.{pick}
use Rattle.vocabulary.specs.Least.{all}
use Rattle.vocabulary.specs.Table.{table}
use Rattle.graph.specs.Graph.{graph_of, lowest_job}
use Rattle.graph.specs.JobRows.{starts, ends}
use Rattle.graph.specs.SearchRows.{no_row}

-- link k leads from one of n jobs to one of them
unfoldable pub inside : List (List ℕ) → ℕ → ℕ → Bool
inside links n k = ltb (get_or (get_or links k []) 0 0) n && ltb (get_or (get_or links k []) 1 0) n

unfoldable pub linked : List (List ℕ) → ℕ → Bool
linked links n = all (inside links n) (length links)

-- a place for each link in the lists; no more links and jobs than a set can have
unfoldable pub roomy : ℕ → ℕ → ℕ → Bool
roomy links lists jobs = eqb lists links && (leb links 4096 && leb jobs 2048)

-- the lowest of n jobs that lies on a cycle; none where none does, and where links lead elsewhere or there is no room for a search
unfoldable pub lowest_in : List (List ℕ) → ℕ → ℕ → Option ℕ
lowest_in links lists n = pick (roomy (length links) lists n && linked links n) (lowest_job (graph_of (starts links) (ends links) n)) None

-- what is lent to search in, cleared
abbrev pub no_lists : ℕ → List ℕ
no_lists k = table (λ x. 0) k

abbrev pub no_rows : ℕ → List (List ℕ)
no_rows n = table (λ x. no_row) n
