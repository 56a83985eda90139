-- Laws of the definitions in specs/Demand2Bytes.antt.
use Rattle.std.specs.Prelude.{◌≡◌, refl, true, List, ◌↔◌, ℕ, Option, Some, None, is_some, unwrap_or}
use Rattle.std.proofs.Common.{sym, ap, ◌∙◌, subst, arith}
use Rattle.vocabulary.proofs.Test.{clash}
use Rattle.kinds.specs.declared.TaskSet.{TaskSet}
use Rattle.kinds.specs.Build.{no_tasks}
use Rattle.kinds.specs.Tasks.{Set, view}
use Rattle.kinds.specs.Plans.{plan_of}
use Rattle.kinds.specs.Valid.{Valid}
use Rattle.reader.specs.Answers as readAnswers
use Rattle.reader.specs.Files.{outcome_read, taken_of}
use Rattle.reader.proofs.ReadLaws.{taken_sound}
use Rattle.judge.specs.declared.Verdict.{Verdict}
use Rattle.judge.specs.declared.Verdict.TheVariants as verdict
use Rattle.judge.specs.Answers.{number_of}
use Rattle.judge.specs.Judgement.{verdict_of}
use Rattle.judge.specs.Heads.{on_taking, judged_of}
use Rattle.screen.specs.Answers.{finding_number}
use Rattle.screen.specs.Heads.{screened_of}
use Rattle.theorems.specs.FileParts.{tasks_in, plan_in, set_of_file, read_parts}
use Rattle.theorems.specs.Demand2.{accepted_iff}
use Rattle.theorems.proofs.Accepted.{finding_is_final}
use Rattle.theorems.specs.Demand2Bytes.{set_of_tasks, Right}

-- 0 is the number of acceptance alone
pub zero_verdict : (v : Verdict) → number_of v ≡ 0 → v ≡ verdict.Accepted
zero_verdict verdict.Accepted e = refl
zero_verdict verdict.BadSet e = absurd (omega arith)
zero_verdict verdict.WrongLength e = absurd (omega arith)
zero_verdict (verdict.BadSlot x) e = absurd (omega arith)
zero_verdict (verdict.Twice t q r) e = absurd (omega arith)
zero_verdict (verdict.Outside t q) e = absurd (omega arith)
zero_verdict (verdict.WrongCount i k c a b) e = absurd (omega arith)
zero_verdict (verdict.BrokenLink k q n) e = absurd (omega arith)

-- the verdict is that of the set, where there is one
pub judged_set : (tasks plan : List ℕ) → is_some (taken_of tasks) ≡ true → judged_of tasks plan ≡ verdict_of (set_of_tasks tasks) plan
unfolding judged_of
judged_set tasks plan e = by (taken_of tasks) e
  where
    by : (t : Option TaskSet) → is_some t ≡ true → on_taking t plan ≡ verdict_of (view (unwrap_or t (no_tasks 0 0))) plan
    by (Some s) e = refl
    by None e = clash e refl

judged_fits : (tasks plan : List ℕ) → judged_of tasks plan ≡ verdict.Accepted → is_some (taken_of tasks) ≡ true
unfolding judged_of
judged_fits tasks plan e = by (taken_of tasks) e
  where
    by : (t : Option TaskSet) → on_taking t plan ≡ verdict.Accepted → is_some t ≡ true
    by (Some s) e = refl
    by None e = absurd (omega (arith, ap number_of e))

-- ==== The judge answers 0 to C exactly if the tasks are a head and nothing more and the plan is right for ever.
pub judged_zero : (tasks plan : List ℕ) → (number_of (judged_of tasks plan) ≡ 0) ↔ Right tasks plan
judged_zero tasks plan = (
  λ e.
      let a = zero_verdict (judged_of tasks plan) e in
      let f = judged_fits tasks plan a in
      let w = (accepted_iff (set_of_tasks tasks) plan).0 (sym (judged_set tasks plan f) ∙ a) in
      record { whole = f; long = w.1; low = w.2; valid = w.3 },
  λ r.
      ap number_of (judged_set tasks plan r.whole ∙ (accepted_iff (set_of_tasks tasks) plan).1 (taken_sound tasks r.whole, r.long, r.low, r.valid)),
)

-- ==== After any finding of the screen, 13, 14, 15 or 10, no plan with those tasks gets 0 from the judge.
pub screened_final : (tasks : List ℕ) → (finding_number (screened_of tasks) ≡ 0 → ⊥) → (plan : List ℕ) → number_of (judged_of tasks plan) ≡ 0 → ⊥
unfolding screened_of
screened_final tasks h plan e =
    let a = zero_verdict (judged_of tasks plan) e in
    let f = judged_fits tasks plan a in
    finding_is_final (set_of_tasks tasks) (λ q. h (rw (f, q))) plan (sym (judged_set tasks plan f) ∙ a)

-- ==== The same for a file that is read: the judge answers 0 for its two parts exactly if the plan is right for ever on the set that was read.
pub file_zero : (file : List ℕ) → readAnswers.number_of (outcome_read file) ≡ 0
    → (number_of (judged_of (tasks_in file) (plan_in file)) ≡ 0) ↔ Valid (set_of_file file) (plan_of (set_of_file file) (plan_in file))
file_zero file e =
    let p = read_parts file e in
    let s : set_of_tasks (tasks_in file) ≡ set_of_file file = ap (λ (t : Option TaskSet). view (unwrap_or t (no_tasks 0 0))) p.tasks in
    let f : is_some (taken_of (tasks_in file)) ≡ true = ap is_some p.tasks in (
      λ z. subst (λ (u : Set). Valid u (plan_of u (plan_in file))) s ((judged_zero (tasks_in file) (plan_in file)).0 z).valid,
      λ v.
          ap number_of (judged_set (tasks_in file) (plan_in file) f
          ∙ ap (λ (u : Set). verdict_of u (plan_in file)) s
          ∙ (accepted_iff (set_of_file file) (plan_in file)).1 (p.is_sound, p.long, p.low, v)),
    )
