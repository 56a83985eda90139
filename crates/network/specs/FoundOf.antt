-- What is found of a set, and what two buffers hold afterwards: for every set, and buffers of any length.
use Rattle.std.specs.Prelude.{◌≡◌, Bool, ◌&&◌, Option, Some, None, List, ℕ, eqb, leb, ltb, ℤ, length}
use Rattle.std.proofs.Common.{sym, ◌∙◌}
use Rattle.vocabulary.specs.Test.{pick}
use Rattle.kinds.specs.Tasks.{Tasks, Set}
use Rattle.kinds.specs.Cycle.{jobs}
use Rattle.kinds.specs.Sound.{sound}
use Rattle.network.specs.declared.Trouble.{Trouble}
use Rattle.network.specs.declared.Trouble.TheVariants as trouble
use Rattle.network.specs.declared.Found.{Found}
use Rattle.network.specs.Named.{job_at}
use Rattle.network.specs.Causes.{load, room, lowest_cycle, lowest_tight, releases_of, deadlines_of}

-- of n jobs, y is the lowest that is too tight
abbrev pub tight_by : Tasks → (n y : ℕ) → Option Trouble
tight_by u n y = pick (ltb y n) (Some (trouble.Tight (job_at u y))) None

-- and x the lowest on a cycle, which is named first: where links make a cycle there are no adjusted times, and no job is too tight for them
abbrev pub trouble_by : Tasks → (n x y : ℕ) → Option Trouble
trouble_by u n x y = pick (ltb x n) (Some (trouble.Cycle (job_at u x))) (tight_by u n y)

unfoldable pub trouble_of : Set → Option Trouble
trouble_of s = trouble_by s.tasks (jobs s.tasks) (lowest_cycle s) (lowest_tight s)

-- what is found of a set, none where it breaks rule 10
unfoldable pub found_of : Set → Option Found
found_of s = pick (sound s) (Some (record { jobs = jobs s.tasks; trouble = trouble_of s; load = load s.tasks; room = room s })) None

-- adjusted times are written: the set keeps rule 10, no job lies on a cycle, and buffers of p and q places have one for each
unfoldable pub times_fit : Set → ℕ → ℕ → Bool
times_fit s p q = sound s && (leb (jobs s.tasks) (lowest_cycle s) && (eqb p (jobs s.tasks) && eqb q (jobs s.tasks)))

-- what the buffers hold afterwards
unfoldable pub releases_put : Set → List ℤ → List ℤ → List ℤ
releases_put s a b = pick (times_fit s (length a) (length b)) (releases_of s) a

unfoldable pub deadlines_put : Set → List ℤ → List ℤ → List ℤ
deadlines_put s a b = pick (times_fit s (length a) (length b)) (deadlines_of s) b

pub record SolvedFor (s : Set) (a b : List ℤ) (r : Option Found) (a' b' : List ℤ) : Type 0 where
  pub found : r ≡ found_of s
  pub releases : a' ≡ releases_put s a b
  pub deadlines : b' ≡ deadlines_put s a b

-- ==== two outcomes that are allowed are equal
pub solved_once : (s : Set) (a b : List ℤ) (r q : Option Found) (a' b' a'' b'' : List ℤ)
    → SolvedFor s a b r a' b' → SolvedFor s a b q a'' b'' → (r ≡ q) × (a' ≡ a'') × (b' ≡ b'')
solved_once s a b r q a' b' a'' b'' m n = (m.found ∙ sym n.found, m.releases ∙ sym n.releases, m.deadlines ∙ sym n.deadlines)
