-- Demand 2: the judge accepts exactly the plans whose endless repetition is valid, and of the others it names the first rule that is broken.
use Rattle.std.specs.Prelude.{◌≡◌, refl, true, List, ◌↔◌, ℕ, ◌*◌, ◌<◌, ◌≤◌, length, get_or}
use Rattle.std.proofs.Common.{sym, ◌∙◌, subst, ⊎_elim, arith}
use Rattle.vocabulary.proofs.Test.{lt_or_le}
use Rattle.vocabulary.specs.First.{◌also◌, earlier, KeptBy, AllKept}
use Rattle.vocabulary.proofs.First.{all_kept}
use Rattle.kinds.specs.Tasks.{Set}
use Rattle.kinds.specs.Cycle.{cycle}
use Rattle.kinds.specs.Plans.{plan_of}
use Rattle.kinds.specs.Sound.{sound}
use Rattle.kinds.specs.Valid.{Valid}
use Rattle.kinds.proofs.SoundFacts.{sound_facts}
use Rattle.judge.specs.declared.Verdict.{Verdict}
use Rattle.judge.specs.declared.Verdict.TheVariants as verdict
use Rattle.judge.specs.Judgement.{verdict_of, rules, plan_rules}
use Rattle.theorems.specs.Names.{Keeps11, Keeps12, claims, KeptBefore, Breach, Names}
use Rattle.theorems.specs.RulesMeanValid.{clean_valid, keeps_20, keeps_21, keeps_22, keeps_23}
use Rattle.theorems.specs.FirstRule.{is_verdict, verdict_names}

-- no slot is above the task count, said in two ways
low_slots : (s : Set) (slots : List ℕ) → Keeps12 s slots → (e : ℕ) → e < length slots → get_or slots e 0 ≤ s.tasks.count
low_slots s slots k e l = ⊎_elim (λ h. absurd (k.none e l h)) (λ h. h) (lt_or_le s.tasks.count (get_or slots e 0))

keeps_12 : (s : Set) (slots : List ℕ) → ((e : ℕ) → e < length slots → get_or slots e 0 ≤ s.tasks.count) → Keeps12 s slots
keeps_12 s slots c = record { none = λ e l h. omega (arith, c e l) }

-- acceptance, rule by rule
accepted_keeps : (s : Set) (slots : List ℕ) → verdict_of s slots ≡ verdict.Accepted → KeptBefore s slots 0
accepted_keeps s slots e = (subst (Names s slots) e (verdict_names s slots)).kept

keeps_accepted : (s : Set) (slots : List ℕ) → AllKept (claims s slots) → verdict_of s slots ≡ verdict.Accepted
unfolding Breach
keeps_accepted s slots k = sym (is_verdict s slots verdict.Accepted (record { kept = λ m e. all_kept (claims s slots) k m; broken = tt }))

-- ==== For a sound task set, and a plan of m·H slots of which none is above the task count: the judge accepts the plan exactly if its endless repetition
-- gives every job exactly its running time between release and deadline and no tick outside, never on two processors at once, with every precedence kept.
pub judge_accepts : (s : Set) (slots : List ℕ) → sound s ≡ true → length slots ≡ s.processors * cycle s.tasks
    → ((e : ℕ) → e < length slots → get_or slots e 0 ≤ s.tasks.count) → (verdict_of s slots ≡ verdict.Accepted) ↔ Valid s (plan_of s slots)
unfolding claims earlier KeptBy rules plan_rules
judge_accepts s slots a b c = (
  λ e. let k = accepted_keeps s slots e in clean_valid s (sound_facts s a) slots (k 20 refl) (k 21 refl) (k 22 refl) (k 23 refl),
  λ w.
      let f = sound_facts s a in
      let k₁₁ : Keeps11 s slots = record { long = b } in
      let k₁₂ = keeps_12 s slots c in
      keeps_accepted s slots
      (record { sound = a } also k₁₁ also k₁₂ also keeps_20 s f slots k₁₁ k₁₂ w also keeps_21 s f slots k₁₁ k₁₂ w also keeps_22 s f slots w
      also keeps_23 s f slots w also tt),
)

-- ==== For any task set and any slots: the judge accepts exactly if the set is sound, there are m·H slots, none is above the task count, and the plan's
-- endless repetition is valid.
pub accepted_iff : (s : Set) (slots : List ℕ)
    → (verdict_of s slots ≡ verdict.Accepted) ↔ ((sound s ≡ true) × (length slots ≡ s.processors * cycle s.tasks) × ((e : ℕ) → e < length slots
    → get_or slots e 0 ≤ s.tasks.count) × Valid s (plan_of s slots))
unfolding claims earlier KeptBy rules plan_rules
accepted_iff s slots = (
  λ e.
      let k = accepted_keeps s slots e in
      let c = low_slots s slots (k 12 refl) in
      let a : sound s ≡ true = (k 10 refl).sound in
      let b : length slots ≡ s.processors * cycle s.tasks = (k 11 refl).long in
      (a, b, c, (judge_accepts s slots a b c).0 e),
  λ w. (judge_accepts s slots w.0 w.1 w.2).1 w.3,
)

-- ==== The verdict names the first rule that is broken, in the order 10, 11, 12, 20, 21, 22, 23, with the lowest evidence; it accepts if none is.
pub first_rule : (s : Set) (slots : List ℕ) → Names s slots (verdict_of s slots)
first_rule s slots = verdict_names s slots

-- ==== No other verdict claims what is so: whatever is named as `Names` says is the verdict,
pub only_verdict : (s : Set) (slots : List ℕ) (v : Verdict) → Names s slots v → v ≡ verdict_of s slots
only_verdict s slots v n = is_verdict s slots v n

-- ==== and two verdicts that are named so are equal.
pub one_verdict : (s : Set) (slots : List ℕ) (v w : Verdict) → Names s slots v → Names s slots w → v ≡ w
one_verdict s slots v w a b = only_verdict s slots v a ∙ sym (only_verdict s slots w b)
