-- The verdict: the rules in their order, and for each the lowest evidence.
use Rattle.std.specs.Prelude.{not, List, [], ◌∷◌, ℕ, ◌*◌, eqb, length}
use Rattle.vocabulary.specs.Least.{least, some}
use Rattle.vocabulary.specs.First.{Rule, rule, first_of, from}
use Rattle.kinds.specs.Tasks.{Tasks, Patterns, Set, pair_count}
use Rattle.kinds.specs.Cycle.{cycle, jobs_of}
use Rattle.kinds.specs.Links.{repeats}
use Rattle.kinds.specs.Plans.{Plan, plan_of, ticks, first_tick, last_tick}
use Rattle.kinds.specs.Sound.{sound}
use Rattle.slots.specs.High.{high}
use Rattle.judge.specs.declared.Verdict.{Verdict}
use Rattle.judge.specs.declared.Verdict.TheVariants as verdict
use Rattle.judge.specs.Rules.{twin, mated, clashes, strays, strayed, miscounts, miscounted, breaks, broken_pair, broken_pattern}

-- Rule R7.6: for each rule the verdict with its lowest evidence.
unfoldable pub high_at : Tasks → Plan → Verdict
high_at u p = verdict.BadSlot (least (high p.slots u.count) (length p.slots))

unfoldable pub twice_at : Plan → Verdict
twice_at p =
    let t : ℕ = least (clashes p) p.cycle in
    let q : ℕ = least (mated p t) p.processors in
    verdict.Twice t q (least (twin p t q) p.processors)

unfoldable pub outside_at : Tasks → Plan → Verdict
outside_at u p = let c : ℕ = least (strayed u p) p.cycle in verdict.Outside c (least (strays u p c) p.processors)

unfoldable pub wrong_at : Tasks → Plan → Verdict
wrong_at u p =
    let i : ℕ = least (miscounted u p) u.count in
    let k : ℕ = least (miscounts u p i) (jobs_of u i) in
    verdict.WrongCount i k (ticks u p i k) (first_tick u p i k) (last_tick u p i k)

unfoldable pub broken_at : Tasks → Patterns → Plan → Verdict
broken_at u v p =
    let k : ℕ = least (broken_pattern u v p) v.count in
    let q : ℕ = least (broken_pair u v p k) (pair_count v k) in
    verdict.BrokenLink k q (least (breaks u v p k q) (repeats u v k))

-- Rule R10.6: the rules in their order. Those of a plan of the right length for a sound set,
unfoldable pub plan_rules : Tasks → Patterns → Plan → List (Rule Verdict)
plan_rules u v p =
    rule 12 (some (high p.slots u.count) (length p.slots)) (high_at u p)
    ∷ rule 20 (some (clashes p) p.cycle) (twice_at p)
    ∷ rule 21 (some (strayed u p) p.cycle) (outside_at u p)
    ∷ rule 22 (some (miscounted u p) u.count) (wrong_at u p)
    ∷ rule 23 (some (broken_pattern u v p) v.count) (broken_at u v p)
    ∷ []

-- and before them those that see to it.
unfoldable pub rules : Set → List ℕ → List (Rule Verdict)
rules s slots =
    rule 10 (not (sound s)) verdict.BadSet
    ∷ rule 11 (not (eqb (length slots) (s.processors * cycle s.tasks))) verdict.WrongLength
    ∷ plan_rules s.tasks s.patterns (plan_of s slots)

unfoldable pub verdict_of : Set → List ℕ → Verdict
verdict_of s slots = first_of (rules s slots) verdict.Accepted

-- What the code's parts answer: the verdict by a plan's rules from rule n on.
unfoldable pub verdict_from : ℕ → Tasks → Patterns → Plan → Verdict
verdict_from n u v p = first_of (from n (plan_rules u v p)) verdict.Accepted
