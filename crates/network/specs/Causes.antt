-- What can be wrong with a set, and its adjusted times: links that make a cycle, too much load, a job that is too tight.
use Rattle.std.specs.Prelude.{Bool, List, ℕ, ◌+◌, ◌*◌, ℤ, pos}
use Rattle.std.specs.Int.Signed.{lt_z}
use Rattle.vocabulary.specs.Least.{least}
use Rattle.vocabulary.specs.Total.{total}
use Rattle.vocabulary.specs.Table.{table}
use Rattle.graph.specs.Graph.{loops}
use Rattle.kinds.specs.Tasks.{Tasks, Patterns, Set, running}
use Rattle.kinds.specs.Cycle.{cycle, jobs, jobs_of}
use Rattle.network.specs.Network.{network}
use Rattle.network.specs.Times.{Weight, own_running, release_by, adjusted_release, adjusted_deadline}

-- Rule R9.2, which is about 13: job x lies on a cycle when a way of at least one link leads from it to itself
unfoldable pub on_cycle : Tasks → Patterns → ℕ → Bool
on_cycle u v x = loops (network u v) x

-- Rule R9.3, which is about 14: the ticks that the jobs of a cycle need, and those that the processors have
unfoldable pub load : Tasks → ℕ
load u = total (λ i. running u i * jobs_of u i) u.count

unfoldable pub room : Set → ℕ
room s = s.processors * cycle s.tasks

-- Rule R9.4, which is about 15: adjusted release and running time together are over the adjusted deadline, for releases over any weight
unfoldable pub tight_by : Weight → Tasks → Patterns → ℕ → Bool
tight_by w u v x = lt_z (adjusted_deadline u v x) (pos (release_by w u v x + own_running u x))

-- and for those of rule R8.3
abbrev pub tight : Tasks → Patterns → ℕ → Bool
tight u v x = tight_by own_running u v x

-- Rule R7.6: the lowest job on a cycle, and the lowest tight one; as many as there are jobs where there is none
abbrev pub lowest_cycle : Set → ℕ
lowest_cycle s = least (on_cycle s.tasks s.patterns) (jobs s.tasks)

abbrev pub lowest_tight_by : Weight → Set → ℕ
lowest_tight_by w s = least (tight_by w s.tasks s.patterns) (jobs s.tasks)

abbrev pub lowest_tight : Set → ℕ
lowest_tight s = lowest_tight_by own_running s

-- Rule R8.4: the times of the jobs of a cycle, in their order
abbrev pub releases_of : Set → List ℤ
releases_of s = table (λ x. pos (adjusted_release s.tasks s.patterns x)) (jobs s.tasks)

abbrev pub deadlines_of : Set → List ℤ
deadlines_of s = table (adjusted_deadline s.tasks s.patterns) (jobs s.tasks)
