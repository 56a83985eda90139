-- What each verdict claims (docs/RULES.md, section 10): which rules are kept, which one is broken, and that its evidence is the lowest.
use Rattle.std.specs.Prelude.{◌≡◌, true, false, List, [], ◌∷◌, ℕ, ◌+◌, ◌-◌, ◌*◌, ◌%◌, ◌<◌, ◌≤◌, get_or, length}
use Rattle.kinds.specs.Tasks.{Tasks, Patterns, Set, period, running, offset, deadline, from_task, to_task, pair_count}
use Rattle.kinds.specs.Cycle.{cycle, jobs_of}
use Rattle.kinds.specs.Links.{link_from, link_to, repeats}
use Rattle.kinds.specs.Plans.{Plan, plan_of, slot, ticks}
use Rattle.kinds.specs.Sound.{sound}
use Rattle.kinds.specs.Valid.{LinkKept}
use Rattle.kinds.specs.JobTicks.{Gets}
use Rattle.judge.specs.declared.Verdict.{Verdict}
use Rattle.judge.specs.declared.Verdict.TheVariants as verdict
use Rattle.judge.specs.Answers.{number_of}
use Rattle.vocabulary.specs.First.{Claim, claim, numbers_of, earlier, KeptBy}
use Rattle.judge.specs.Judgement.{rules}
use Rattle.vocabulary.specs.Lowest.{Lowest, Lowest2, Lowest3}

-- ---- how each rule is broken at one place
-- 12, rule R7.5: the slot at place e is above the task count
abbrev pub TooHigh : Set → List ℕ → ℕ → Type 0
TooHigh s slots e = s.tasks.count < get_or slots e 0

-- 20, rule R10.2: at tick t two processors, q < r, show the same task
pub record Doubled (p : Plan) (t q r : ℕ) : Type 0 where
  pub order : q < r
  pub busy : slot p t q ≡ 0 → ⊥
  pub same : slot p t r ≡ slot p t q

-- 21, rule R10.3: the slot of tick c lies outside its task's windows. H is a multiple of T, so that adding it keeps the remainder of c − O by T, and c + H is
-- not below O
pub record Misplaced (u : Tasks) (p : Plan) (c q : ℕ) : Type 0 where
  pub busy : slot p c q ≡ 0 → ⊥
  pub late : deadline u (slot p c q - 1) ≤ (c + p.cycle - offset u (slot p c q - 1)) % period u (slot p c q - 1)

-- 22, rule R10.4: a job gets more or fewer ticks than its C
abbrev pub Miscounted : Tasks → Plan → ℕ → ℕ → Type 0
Miscounted u p i k = ticks u p i k ≡ running u i → ⊥

-- 23, rule R10.5: a link is not kept
abbrev pub LinkBroken : Tasks → Patterns → Plan → ℕ → ℕ → ℕ → Type 0
LinkBroken u v p k q n = LinkKept u p (from_task v k) (link_from u v k q n) (to_task v k) (link_to u v k q n) → ⊥

-- ---- each rule, kept in the whole cycle
pub record Keeps10 (s : Set) : Type 0 where
  pub sound : sound s ≡ true

pub record Keeps11 (s : Set) (slots : List ℕ) : Type 0 where
  pub long : length slots ≡ s.processors * cycle s.tasks

pub record Keeps12 (s : Set) (slots : List ℕ) : Type 0 where
  pub none : (e : ℕ) → e < length slots → TooHigh s slots e → ⊥

pub record Keeps20 (s : Set) (slots : List ℕ) : Type 0 where
  pub none : (t q r : ℕ) → t < cycle s.tasks → q < s.processors → r < s.processors → Doubled (plan_of s slots) t q r → ⊥

pub record Keeps21 (s : Set) (slots : List ℕ) : Type 0 where
  pub none : (c q : ℕ) → c < cycle s.tasks → q < s.processors → Misplaced s.tasks (plan_of s slots) c q → ⊥

pub record Keeps22 (s : Set) (slots : List ℕ) : Type 0 where
  pub none : (i k : ℕ) → i < s.tasks.count → k < jobs_of s.tasks i → Miscounted s.tasks (plan_of s slots) i k → ⊥

pub record Keeps23 (s : Set) (slots : List ℕ) : Type 0 where
  pub none : (k q n : ℕ) → k < s.patterns.count → q < pair_count s.patterns k → n < repeats s.tasks s.patterns k
      → LinkBroken s.tasks s.patterns (plan_of s slots) k q n → ⊥

-- ---- what each rule says where it is kept, by its number
unfoldable pub claims : Set → List ℕ → List Claim
claims s slots =
    claim 10 (Keeps10 s)
    ∷ claim 11 (Keeps11 s slots)
    ∷ claim 12 (Keeps12 s slots)
    ∷ claim 20 (Keeps20 s slots)
    ∷ claim 21 (Keeps21 s slots)
    ∷ claim 22 (Keeps22 s slots)
    ∷ claim 23 (Keeps23 s slots)
    ∷ []

-- Every rule that stands before a number in the judge's order is kept; before 0, which no rule has, all of them stand. The order is that of judge `rules`.
abbrev pub KeptBefore : Set → List ℕ → ℕ → Type 0
KeptBefore s slots n = (m : ℕ) → earlier (numbers_of (rules s slots)) m n ≡ true → KeptBy (claims s slots) m

-- nothing is claimed
abbrev pub Nothing : Type 0
Nothing = Unit {0}

-- ---- the rule that is broken, and that the evidence is its lowest (rule R7.6). 22 also shows what the job gets, which is how many ticks, and the first and
-- the last of them in true time, and 23 a k below H/p.
unfoldable pub Breach : Set → List ℕ → Verdict → Type 0
Breach s slots verdict.BadSet = sound s ≡ false
Breach s slots verdict.WrongLength = length slots ≡ s.processors * cycle s.tasks → ⊥
Breach s slots (verdict.BadSlot e) = Lowest (TooHigh s slots) (length slots) e
Breach s slots (verdict.Twice t q r) = Lowest3 (Doubled (plan_of s slots)) (cycle s.tasks) (λ x. s.processors) (λ x y. s.processors) t q r
Breach s slots (verdict.Outside c q) = Lowest2 (Misplaced s.tasks (plan_of s slots)) (cycle s.tasks) (λ x. s.processors) c q
Breach s slots (verdict.WrongCount i k c a b) =
    Lowest2 (Miscounted s.tasks (plan_of s slots)) s.tasks.count (jobs_of s.tasks) i k × Gets s.tasks (plan_of s slots) i k c a b
Breach s slots (verdict.BrokenLink k q n) =
    Lowest3 (LinkBroken s.tasks s.patterns (plan_of s slots)) s.patterns.count (pair_count s.patterns)
    (λ x y. repeats s.tasks s.patterns x) k q n
Breach s slots verdict.Accepted = Nothing

-- ==== What a verdict claims: the rules before its own are kept, its own is broken, and its evidence is the lowest. Acceptance claims that all are kept.
pub record Names (s : Set) (slots : List ℕ) (x : Verdict) : Type 0 where
  pub kept : KeptBefore s slots (number_of x)
  pub broken : Breach s slots x
