-- The call for adjusted times, from what its tests said: answer and both buffers, for every input.
use Rattle.std.specs.Prelude.{◌≡◌, List, ℤ, length}
use Rattle.std.proofs.Common.{sym, ◌∙◌}
use Rattle.kinds.specs.Tasks.{Set}
use Rattle.screen.specs.Answers.{Adjusted}
use Rattle.screen.specs.Findings.{adjusted_of, releases_left, deadlines_left}

-- the answer a, and what the buffers r and d hold afterwards
pub record Answered (s : Set) (r d : List ℤ) (a : Adjusted) (r' d' : List ℤ) : Type 0 where
  pub answer : a ≡ adjusted_of s (length r) (length d)
  pub releases : r' ≡ releases_left s r d
  pub deadlines : d' ≡ deadlines_left s r d

-- ==== two outcomes that are allowed are equal
pub answered_once : (s : Set) (r d : List ℤ) (a b : Adjusted) (r' d' r'' d'' : List ℤ)
    → Answered s r d a r' d' → Answered s r d b r'' d'' → (a ≡ b) × (r' ≡ r'') × (d' ≡ d'')
answered_once s r d a b r' d' r'' d'' p q =
    (p.answer ∙ sym q.answer, p.releases ∙ sym q.releases, p.deadlines ∙ sym q.deadlines)
