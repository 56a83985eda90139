-- A walk over the links that sees whether the jobs' numbers fall along each.
use Rattle.std.specs.Prelude.{◌≡◌, List, [], ℕ, ◌+◌, ◌≤◌, ◌<◌, length, get_or}
use Rattle.std.proofs.Common.{sym, ap, ◌∙◌, arith, below_more}
use Rattle.graph.proofs.Column.{column_long, column_at}
use Rattle.graph.specs.Pass.{at}
use Rattle.graph.specs.Cycle.{Between, Falling}
use Rattle.graph.specs.JobRows.{starts, ends, aheads}

pub fall_from : (links rows : List (List ℕ)) → Falling (starts links) (ends links) (aheads rows) 0
fall_from links rows = record { each = λ j l. absurd (omega arith) }

module _ (links rows : List (List ℕ)) (k : ℕ) where
  module _ (p : Between (starts links) (ends links) (length rows)) (l : k < length links) where
    pub fall_start : {a : ℕ} → a ≡ get_or (get_or links k []) 0 0 → a < length rows
    fall_start e = omega (arith, e, column_at 0 links k, p.starts k (omega (arith, column_long 0 links)))

    pub fall_end : {b : ℕ} → b ≡ get_or (get_or links k []) 1 0 → b < length rows
    fall_end e = omega (arith, e, column_at 1 links k, p.ends k (omega (arith, column_long 0 links)))

  pub fall_on : Falling (starts links) (ends links) (aheads rows) k → {a b : ℕ} → a ≡ get_or (get_or links k []) 0 0 → b ≡ get_or (get_or links k []) 1 0
      → get_or (get_or rows b []) 2 0 < get_or (get_or rows a []) 2 0 → Falling (starts links) (ends links) (aheads rows) (k + 1)
  fall_on p {a} {b} ea eb l =
      record { each = below_more (λ (j : ℕ). at (aheads rows) (at (ends links) j) < at (aheads rows) (at (starts links) j)) k p.each last }
    where
      last : at (aheads rows) (at (ends links) k) < at (aheads rows) (at (starts links) k)
      last =
          omega (
            arith,
            ap (at (aheads rows)) (column_at 1 links k ∙ sym eb),
            ap (at (aheads rows))
                (column_at 0 links k ∙ sym ea),
            column_at 2 rows a,
            column_at 2 rows b,
          )

  pub fall_all : Falling (starts links) (ends links) (aheads rows) k → length links ≤ k
      → Falling (starts links) (ends links) (aheads rows) (length (starts links))
  fall_all p l = record { each = λ j h. p.each j (omega (arith, column_long 0 links)) }
