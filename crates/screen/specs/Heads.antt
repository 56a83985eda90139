-- The screen and adjusted times for C, which passes tasks and m as the bytes of a head (rules R12.1, R12.6).
use Rattle.std.specs.Prelude.{◌≡◌, List, ℕ, ℤ, length, Option, Some, is_some, Err}
use Rattle.std.proofs.Common.{sym, ◌∙◌}
use Rattle.vocabulary.specs.Test.{pick}
use Rattle.kinds.specs.Tasks.{view}
use Rattle.reader.specs.Files.{taken_of, set_taken}
use Rattle.screen.specs.declared.Finding.{Finding}
use Rattle.screen.specs.declared.Finding.TheVariants as finding
use Rattle.screen.specs.Answers.{Adjusted}
use Rattle.screen.specs.declared.Unadjusted.TheVariants as unadjusted
use Rattle.screen.specs.Findings.{finding_of, adjusted_of, releases_left, deadlines_left}

unfoldable pub screened_of : List ℕ → Option Finding
screened_of tasks = pick (is_some (taken_of tasks)) (finding_of (view (set_taken tasks))) (Some finding.BadSet)

-- the answer, for buffers of p and q places
unfoldable pub adjusted_head : List ℕ → ℕ → ℕ → Adjusted
adjusted_head tasks p q = pick (is_some (taken_of tasks)) (adjusted_of (view (set_taken tasks)) p q) (Err unadjusted.BadSet)

-- what the buffers hold afterwards; a refusal leaves both as they are
unfoldable pub releases_kept : List ℕ → List ℤ → List ℤ → List ℤ
releases_kept tasks r d = pick (is_some (taken_of tasks)) (releases_left (view (set_taken tasks)) r d) r

unfoldable pub deadlines_kept : List ℕ → List ℤ → List ℤ → List ℤ
deadlines_kept tasks r d = pick (is_some (taken_of tasks)) (deadlines_left (view (set_taken tasks)) r d) d

-- the answer a, with A as what is said of answers: the answer itself, or its number
pub record AdjustedBy {A : Type 0} (say : Adjusted → A) (tasks : List ℕ) (r d : List ℤ) (a : A) (r' d' : List ℤ) : Type 0 where
  pub answer : a ≡ say (adjusted_head tasks (length r) (length d))
  pub releases : r' ≡ releases_kept tasks r d
  pub deadlines : d' ≡ deadlines_kept tasks r d

-- ==== two outcomes that are allowed are equal
pub adjusted_once : {A : Type 0} (say : Adjusted → A) (tasks : List ℕ) (r d : List ℤ) (a b : A) (r' d' r'' d'' : List ℤ)
    → AdjustedBy say tasks r d a r' d' → AdjustedBy say tasks r d b r'' d'' → (a ≡ b) × (r' ≡ r'') × (d' ≡ d'')
adjusted_once say tasks r d a b r' d' r'' d'' p q =
    (p.answer ∙ sym q.answer, p.releases ∙ sym q.releases, p.deadlines ∙ sym q.deadlines)
