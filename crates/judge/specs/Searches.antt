-- Searches for the lowest number that passes a test, which answer it with what is found there.
use Rattle.std.specs.Prelude.{Bool, ℕ, Option, Some, None}
use Rattle.vocabulary.specs.Test.{pick}
use Rattle.vocabulary.specs.Least.{least, some}
use Rattle.kinds.specs.Tasks.{Tasks, Patterns}
use Rattle.kinds.specs.Links.{repeats}
use Rattle.kinds.specs.Plans.{Plan}
use Rattle.judge.specs.declared.Verdict.{Verdict}
use Rattle.judge.specs.Rules.{twin, mated, clashes, breaks, broken_pair}
use Rattle.judge.specs.Judgement.{twice_at}

-- That number below n, with g's for it, if one passes.
unfoldable pub lowest_with : (ℕ → Bool) → (ℕ → ℕ) → ℕ → Option (ℕ × ℕ)
lowest_with f g n = pick (some f n) (Some (least f n, g (least f n))) None

-- The lowest processor that has a mate in tick c, and its lowest mate.
abbrev pub mated_pair_of : Plan → ℕ → Option (ℕ × ℕ)
mated_pair_of p c = lowest_with (mated p c) (λ q. least (twin p c q) p.processors) p.processors

-- The lowest of a pattern's first n pairs that has a broken link, and its lowest.
abbrev pub broken_pair_of : Tasks → Patterns → Plan → ℕ → ℕ → Option (ℕ × ℕ)
broken_pair_of u v p k n = lowest_with (broken_pair u v p k) (λ q. least (breaks u v p k q) (repeats u v k)) n

-- The verdict of rule 20, if it is broken.
unfoldable pub twice_found : Plan → Option Verdict
twice_found p = pick (some (clashes p) p.cycle) (Some (twice_at p)) None
