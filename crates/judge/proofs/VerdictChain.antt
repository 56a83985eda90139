-- The verdict by its ways out: what is left of the chain of rules once those before are kept.
use mathlib.Core.Path.{◌≡◌, refl, sym, ap, ◌∙◌, subst}
use mathlib.Core.Bool.{Bool, true, false}
use mathlib.Core.List.{List, [], ◌∷◌}
use mathlib.Core.Logic.{◌⊎◌, inl, inr}
use Prim.Native.Nat.{ℕ, zero, suc, ◌*◌, ◌/◌, ◌%◌, ◌<◌, ◌≤◌}
use native.Mathlib.Nat.{div-lt_iff_lt-mul, mod-lt, mul-le-mul}
use native.Mathlib.Omega.{arith}
use lib.ListN.{get_or, length, take, replicate, length-replicate, get_or-replicate}
use borrow.Author.Tests.{eq-eqb, ne_eqb}
use Rattle.vocabulary.specs.Test.{pick}
use Rattle.vocabulary.proofs.Test.{clash}
use Rattle.vocabulary.specs.First.{first_of, from}
use Rattle.vocabulary.specs.Least.{least, some, lowest}
use Rattle.vocabulary.proofs.Least.{least_is, some_yes, some_lt, some_ge, none, some_least, none_least}
use Rattle.vocabulary.specs.Tally.{Fresh}
use Rattle.kinds.specs.declared.Counts.{Counts}
use Rattle.kinds.specs.declared.Tables.{Tables}
use Rattle.kinds.specs.Tasks.{Tasks, Patterns, Set, tasks_of}
use Rattle.kinds.specs.Plans.{Plan}
use Rattle.kinds.specs.Sound.{sound}
use Rattle.kinds.proofs.SoundFacts.{Sound, sound_facts}
use Rattle.kinds.specs.SoundByTests.{CountsFound, lent_is}
use Rattle.judge.specs.declared.Verdict.{Verdict}
use Rattle.judge.specs.declared.Verdict.TheVariants as verdict
use Rattle.slots.specs.High.{high}
use Rattle.slots.proofs.HighLaws.{all_low}
use Rattle.judge.specs.Rules.{twin, mated, clashes, strays, strayed, miscounted}
use Rattle.judge.specs.Judgement.{high_at, twice_at, outside_at, plan_rules, verdict_from, rules, verdict_of}
use Rattle.judge.specs.JobOfSlot.{Fit, FirstJobs, outside}
use Rattle.judge.proofs.Visit.{few_slots}
use Rattle.judge.specs.RowMarks.{Worded}
use Rattle.judge.specs.Sweep.{Clean, FirstOutside, Halted}
use Rattle.judge.proofs.SweepLaws.{out_found}
use Rattle.judge.specs.TableNeeds.{PlanNeeds, Tallied, Counted, AllRan, LinkNeeds}
use Rattle.judge.proofs.NeedLaws.{fit_needs}
use Rattle.judge.proofs.CountLaws.{all_counted}
use Rattle.kinds.specs.Build.{tables_of, lent_tasks, lent_patterns, lent_set}
use Rattle.judge.specs.Lent.{lent_plan, misplaced_verdict}
use Rattle.judge.specs.Searches.{mated_pair_of, twice_found}
use Rattle.judge.proofs.Searches.{with_some, with_none}
use Rattle.std.specs.Prelude.{Some, None}

-- A set by value with the numbers that were found is judged as its tables are.
pub lent_verdict : (s : Set) {f : Counts} → CountsFound s f → (slots : List ℕ)
    → verdict_of (lent_set f (tables_of s.tasks.attributes s.patterns.headings s.patterns.pairs)) slots ≡ verdict_of s slots
lent_verdict s c slots = ap (λ (z : Set). verdict_of z slots) (lent_is s c)

-- ---- 10 and 11
pub bad_set : (s : Set) (slots : List ℕ) → sound s ≡ false → verdict.BadSet ≡ verdict_of s slots
unfolding verdict_of rules first_of
bad_set s slots e = rw e

module _ (f : Counts) (t : Tables) (slots : List ℕ) (c : CountsFound (lent_set f t) f) where
  abbrev s : Set
  s = lent_set f t

  found : Sound s
  found = sound_facts s c.is_sound

  -- The product fits.
  pub few_places : f.processors * f.ticks ≤ 48000
  few_places =
      mul-le-mul {n₁ = f.processors} {m₁ = f.ticks} {n₂ = 8} {m₂ = 6000} found.few_processors (omega (arith, c.ticks, found.low_cycle))

  pub other_length : (length slots ≡ f.processors * f.ticks → ⊥) → verdict.WrongLength ≡ verdict_of (lent_set f t) slots
  unfolding verdict_of rules first_of
  other_length n = rw (c.is_sound, ← c.ticks, ne_eqb (length slots) (f.processors * f.ticks) n)

  module _ (l : length slots ≡ f.processors * f.ticks) where
    pub plan_needs : PlanNeeds (lent_tasks f t) (lent_patterns f t) (lent_plan f slots)
    plan_needs = record { edition = f.edition; sound = found; ticks = c.ticks; long = l }

    pub judged : verdict_from 12 (lent_tasks f t) (lent_patterns f t) (lent_plan f slots) ≡ verdict_of (lent_set f t) slots
    unfolding verdict_of rules verdict_from plan_rules from first_of
    judged = rw (c.is_sound, ← c.ticks, eq-eqb (length slots) (f.processors * f.ticks) l)

-- ---- 12
module _ (u : Tasks) (v : Patterns) (p : Plan) where
  pub high_slot_lem : {e : ℕ} → Some e ≡ lowest (high p.slots u.count) (length p.slots) → verdict.BadSlot e ≡ verdict_from 12 u v p
  unfolding verdict_from plan_rules from first_of high_at
  high_slot_lem {e} found =
      let w = some_least (high p.slots u.count) (length p.slots) e found in
      rw (some_lt (high p.slots u.count) (length p.slots) e w.0 w.1, ← w.0)

  module _ (none : None ≡ lowest (high p.slots u.count) (length p.slots)) where
    none_high : some (high p.slots u.count) (length p.slots) ≡ false
    none_high = (none_least (high p.slots u.count) (length p.slots) none).1

    pub low_slots : verdict_from 20 u v p ≡ verdict_from 12 u v p
    unfolding verdict_from plan_rules from first_of
    low_slots = rw none_high

    pub fit_slots : PlanNeeds u v p → Fit u p
    fit_slots a = fit_needs u v p a (all_low p.slots u.count none_high)

-- ---- the table of jobs as it is made
abbrev pub no_row : List ℕ
no_row = 0 ∷ 0 ∷ 0 ∷ []

taken : (n size : ℕ) → n ≤ size → take n (replicate size no_row) ≡ replicate n no_row
taken zero size l = refl
taken (suc n) zero l = absurd (omega arith)
taken (suc n) (suc size) l = ap (λ (z : List (List ℕ)). no_row ∷ z) (taken n size (omega arith))

pub fresh_rows : (n size : ℕ) → n ≤ size → {m : ℕ} → n ≡ m → Fresh m (take n (replicate size no_row))
fresh_rows n size l {m} e =
    subst (λ (z : List (List ℕ)). Fresh m z) (sym (taken n size l))
    (rw (← e)
    (record { zero = λ j h. ap (λ (r : List ℕ). get_or r 0 0) (get_or-replicate n j no_row [] h); long = length-replicate n no_row }))

-- ---- 20 and 21, where one of the two is broken
pub worded : (u : Tasks) (p : Plan) → Fit u p → Worded p.slots p.processors p.cycle
worded u p f = record { long = f.long; few = λ e. omega (arith, f.low_slots e, f.few_tasks); short = few_slots u p f }

pub twice_none : (p : Plan) → None ≡ lowest (clashes p) p.cycle → None ≡ twice_found p
unfolding twice_found
twice_none p e = rw (none_least (clashes p) p.cycle e).1

-- A tick that is found has two processors, which are in range.
module _ (p : Plan) {c : ℕ} (e : Some c ≡ lowest (clashes p) p.cycle) where
  pub twice_low : c < p.cycle
  twice_low = (some_least (clashes p) p.cycle c e).1

  pub twice_pair : None ≡ mated_pair_of p c → ⊥
  unfolding clashes
  twice_pair n =
      clash (some_least (clashes p) p.cycle c e).2 (with_none (mated p c) (λ q. least (twin p c q) p.processors) p.processors n)

  module _ {q r : ℕ} (m : Some (q, r) ≡ mated_pair_of p c) where
    pub twice_few : (q ≤ p.processors) × (r ≤ p.processors)
    twice_few =
        let w = with_some (mated p c) (λ q. least (twin p c q) p.processors) p.processors m in
        (omega (arith, w.1), omega (arith, w.3, (least_is (twin p c q) p.processors).within))

    pub twice_some : Some (verdict.Twice c q r) ≡ twice_found p
    unfolding twice_found twice_at
    twice_some =
        let w = with_some (mated p c) (λ q. least (twin p c q) p.processors) p.processors m in
        let z = some_least (clashes p) p.cycle c e in
        rw (some_lt (clashes p) p.cycle c z.0 z.1, ← z.0, ← w.0, ← w.3)

module _ (u : Tasks) (p : Plan) where
  pub misplaced_twice : {v : Verdict} → Some v ≡ twice_found p → v ≡ misplaced_verdict u p
  unfolding twice_found misplaced_verdict
  misplaced_twice {v} e = by (some (clashes p) p.cycle) e
    where
      by : (b : Bool) → Some v ≡ pick b (Some (twice_at p)) None → v ≡ pick b (twice_at p) (outside_at u p)
      by true q = cc q
      by false q = let z : ◌≡◌ {A = ℕ} 0 1 = cc q in absurd (omega arith)

  none_twice : None ≡ twice_found p → some (clashes p) p.cycle ≡ false
  unfolding twice_found
  none_twice e = by (some (clashes p) p.cycle) e
    where
      by : (b : Bool) → None ≡ pick b (Some (twice_at p)) None → b ≡ false
      by true q = let z : ◌≡◌ {A = ℕ} 0 1 = cc q in absurd (omega arith)
      by false q = refl

  pub misplaced_outside : None ≡ twice_found p → 0 < p.processors → (x : ℕ) → Halted u p x
      → verdict.Outside (x / p.processors) (x % p.processors) ≡ misplaced_verdict u p
  unfolding misplaced_verdict
  misplaced_outside e m x h =
      let n : some (clashes p) p.cycle ≡ false = none_twice e in
      by h.why n ∙ rw n
    where
      by : (some (clashes p) p.cycle ≡ true) ⊎ FirstOutside u p x → some (clashes p) p.cycle ≡ false
          → verdict.Outside (x / p.processors) (x % p.processors) ≡ outside_at u p
      by (inl y) n = clash y n
      by (inr y) n = out_found u p x m h.low y ((div-lt_iff_lt-mul m).1 h.low)

module _ (u : Tasks) (v : Patterns) (p : Plan) (f : Fit u p) (rows : List (List ℕ)) where
  pub swept_bad : (e : ℕ) → Halted u p e → {r : Verdict} → r ≡ misplaced_verdict u p → r ≡ verdict_from 20 u v p
  unfolding misplaced_verdict verdict_from plan_rules from first_of strayed outside
  swept_bad e s q = q ∙ go (some (clashes p) p.cycle) refl s.why
    where
      m : 0 < p.processors
      m = f.some_processors

      go : (b : Bool) → some (clashes p) p.cycle ≡ b → (some (clashes p) p.cycle ≡ true) ⊎ FirstOutside u p e
          → pick b (twice_at p) (outside_at u p) ≡ pick b (twice_at p) (pick (some (strayed u p) p.cycle) (outside_at u p) (verdict_from 22 u v p))
      go true n h = refl
      go false n (inl h) = clash h n
      go false n (inr h) =
          let y = some_yes (strays u p (e / p.processors)) p.processors (e % p.processors) (mod-lt e m) h.out in
          rw (some_yes (strayed u p) p.cycle (e / p.processors) ((div-lt_iff_lt-mul m).1 s.low) y)

  module _ (w : Clean u p rows) where
    pub swept_good : {r : Verdict} → r ≡ verdict_from 22 u v p → r ≡ verdict_from 20 u v p
    unfolding verdict_from plan_rules from first_of
    swept_good q =
        q ∙
        sym (rw (none (clashes p) p.cycle w.once, none (strayed u p) p.cycle w.inside))

    pub tallied : Tallied rows u p
    tallied = record { fit = f; gets = w.gets }

    abbrev pub counted : {bs : List ℕ} → PlanNeeds u v p → FirstJobs u bs → Counted u.count p.cycle u.attributes bs v rows
    counted a g = record { plan = p; needs = a; tallied = tallied; first_jobs = g; ticks = refl }

-- ---- 22: where every job gets its running time, the links are judged
module _ {n h : ℕ} {xs bs : List ℕ} {v : Patterns} {rows : List (List ℕ)} (w : Counted n h xs bs v rows) {i : ℕ} (e : i ≡ least (miscounted (tasks_of n xs) w.plan) n) (l : n ≤ i) where
  none_miscounted : some (miscounted (tasks_of n xs) w.plan) n ≡ false
  none_miscounted = some_ge (miscounted (tasks_of n xs) w.plan) n i e l

  pub all_ran : AllRan rows (tasks_of n xs) v w.plan
  all_ran =
      record {
        needs = w.needs;
        tallied = w.tallied;
        ran = λ j k lj lk. omega (arith, all_counted (tasks_of n xs) w.plan none_miscounted j k lj lk, w.needs.sound.some_running j lj);
      }

  abbrev pub link_needs : LinkNeeds n h xs bs v rows
  link_needs = record { counted = w; all_ran = all_ran }

  pub none_wrong : {r : Verdict} → r ≡ verdict_from 23 (tasks_of n xs) v w.plan → r ≡ verdict_from 22 (tasks_of n xs) v w.plan
  unfolding verdict_from plan_rules from first_of
  none_wrong q = q ∙ sym (rw none_miscounted)
