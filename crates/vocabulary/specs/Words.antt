-- Words of marks as code makes them: a word's bits from n on, bits that are joined, and a word gathered by `|`.
use Rattle.std.specs.Prelude.{◌≡◌, ℕ, ◌+◌, ◌^◌, ◌≤◌, ◌<◌, eqb}
use Rattle.vocabulary.specs.Least.{some}
use Rattle.vocabulary.specs.Bits.{has}

-- a word that has the marks of the tasks that g 0, .., g (q - 1) mean: a loop's invariant, and its steps
pub record Marking (g : ℕ → ℕ) (m q x : ℕ) : Type 0 where
  pub within : q ≤ m
  pub fits : x < 2 ^ 64
  pub is : (j : ℕ) → has x j ≡ some (λ k. eqb (g k) (j + 1)) q
