-- The judge's rules, each a test of one slot, one row, one job or one link.
use Rattle.std.specs.Prelude.{Bool, ◌&&◌, not, ℕ, ◌+◌, ◌-◌, ◌%◌, eqb, leb, ltb}
use Rattle.vocabulary.specs.Least.{some}
use Rattle.kinds.specs.Tasks.{Tasks, period, running, offset}
use Rattle.kinds.specs.Tasks.{Patterns, deadline, from_task, to_task, pair_count}
use Rattle.kinds.specs.Cycle.{jobs_of}
use Rattle.kinds.specs.Jobs.{release}
use Rattle.kinds.specs.Links.{link_from, link_to, repeats}
use Rattle.kinds.specs.Plans.{Plan, slot, runs, ticks}

-- ---- 12 (rule R7.5) is slots `High.high`, since a step tests it too

-- ---- 20, rule R10.2: processors q < r show the same task at tick t. It is about slots, also where a task still sleeps
unfoldable pub twin : Plan → ℕ → ℕ → ℕ → Bool
twin p t q r = ltb q r && (not (eqb (slot p t q) 0) && eqb (slot p t r) (slot p t q))

unfoldable pub mated : Plan → ℕ → ℕ → Bool
mated p t q = some (twin p t q) p.processors

unfoldable pub clashes : Plan → ℕ → Bool
clashes p t = some (mated p t) p.processors

-- ---- 21, rule R10.3: the slot of tick c lies outside its task's windows. What counts is the remainder of c − O by T, from 0 on. H is a multiple of T, so
-- that adding it keeps the remainder, and c + H is not below O
unfoldable pub strays : Tasks → Plan → ℕ → ℕ → Bool
strays u p c q =
    let i : ℕ = slot p c q - 1 in
    not (eqb (slot p c q) 0) && leb (deadline u i) ((c + p.cycle - offset u i) % period u i)

unfoldable pub strayed : Tasks → Plan → ℕ → Bool
strayed u p c = some (strays u p c) p.processors

-- ---- 22, rule R10.4: a job gets more or fewer ticks in its window than its C
unfoldable pub miscounts : Tasks → Plan → ℕ → ℕ → Bool
miscounts u p i k = not (eqb (ticks u p i k) (running u i))

unfoldable pub miscounted : Tasks → Plan → ℕ → Bool
miscounted u p i = some (miscounts u p i) (jobs_of u i)

-- ---- 23, rule R10.5: a link is broken, since some tick of its first job is not earlier than some tick of its second, in true time.
-- Tick y past the release of job l of task j is one of that job, and not later than time x
unfoldable pub against : Tasks → Plan → ℕ → ℕ → ℕ → ℕ → Bool
against u p j l x y = runs u p j (release u j l + y) && leb (release u j l + y) x

-- tick x past the release of job k of task i is one of that job, and the second job has a tick that is not later
unfoldable pub bars : Tasks → Plan → ℕ → ℕ → ℕ → ℕ → ℕ → Bool
bars u p i k j l x = runs u p i (release u i k + x) && some (against u p j l (release u i k + x)) (deadline u j)

-- the link from job k of task i to job l of task j is broken
unfoldable pub broken : Tasks → Plan → ℕ → ℕ → ℕ → ℕ → Bool
broken u p i k j l = some (bars u p i k j l) (deadline u i)

-- the n-th link of pair q of pattern k is broken
unfoldable pub breaks : Tasks → Patterns → Plan → ℕ → ℕ → ℕ → Bool
breaks u v p k q n = broken u p (from_task v k) (link_from u v k q n) (to_task v k) (link_to u v k q n)

unfoldable pub broken_pair : Tasks → Patterns → Plan → ℕ → ℕ → Bool
broken_pair u v p k q = some (breaks u v p k q) (repeats u v k)

unfoldable pub broken_pattern : Tasks → Patterns → Plan → ℕ → Bool
broken_pattern u v p k = some (broken_pair u v p k) (pair_count v k)
