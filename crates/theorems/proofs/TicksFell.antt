-- Where the ticks fell: what the five numbers of 22 say of the job that they name, for a set, for C, and in a start.
use Rattle.std.specs.Prelude.{◌≡◌, refl, true, not, List, ℕ, ◌<◌, Option, Some, None, is_some, unwrap_or}
use Rattle.std.proofs.Common.{ap, subst, arith}
use Rattle.vocabulary.specs.Test.{pick}
use Rattle.vocabulary.specs.First.{first_of, earlier, KeptBy}
use Rattle.kinds.specs.declared.TaskSet.{TaskSet}
use Rattle.kinds.specs.Build.{no_tasks}
use Rattle.kinds.specs.Tasks.{Set, view, deadline}
use Rattle.kinds.specs.Cycle.{jobs_of}
use Rattle.kinds.specs.Jobs.{release, in_window}
use Rattle.kinds.specs.Plans.{plan_of}
use Rattle.kinds.specs.JobTicks.{Gets}
use Rattle.kinds.proofs.SoundFacts.{Sound, sound_facts}
use Rattle.laws.proofs.JobTicks.{gets_within, gets_low}
use Rattle.reader.specs.Files.{taken_of}
use Rattle.judge.specs.declared.Verdict.TheVariants as verdict
use Rattle.judge.specs.Answers.{number_of}
use Rattle.judge.specs.Judgement.{rules, plan_rules, verdict_of}
use Rattle.judge.specs.Heads.{on_taking, judged_of}
use Rattle.dispatcher.specs.ForC.{start_rules, start_verdict}
use Rattle.theorems.specs.Names.{claims, Breach, Names}
use Rattle.theorems.specs.Foundations.{job_in_cycle}
use Rattle.theorems.specs.Demand2.{first_rule}
use Rattle.theorems.specs.Demand2Bytes.{set_of_tasks}

module _ (s : Set) (slots : List ℕ) {i k c a b : ℕ} (e : verdict_of s slots ≡ verdict.WrongCount i k c a b) where
  named : Names s slots (verdict.WrongCount i k c a b)
  named = subst (Names s slots) e (first_rule s slots)

  -- ==== Where the judge answers 22 with task i, job k and three more numbers, these are how many ticks the job gets, the first of them and the last, in true
  -- time; for a job with no ticks the last two are its release.
  pub ticks_fell : Gets s.tasks (plan_of s slots) i k c a b
  unfolding Breach
  ticks_fell = named.broken.1

  of_sound : Sound s
  unfolding claims earlier KeptBy rules plan_rules
  of_sound = sound_facts s (named.kept 10 refl).sound

  of_cycle : (i < s.tasks.count) × (k < jobs_of s.tasks i)
  unfolding Breach
  of_cycle = (named.broken.0.first_low, named.broken.0.second_low)

  some_deadline : 0 < deadline s.tasks i
  some_deadline = let l = of_cycle.0 in omega (arith, of_sound.some_running i l, of_sound.running_low i l)

  -- ==== Both lie in the window of the job,
  pub fell_within : (in_window s.tasks i k a ≡ true) × (in_window s.tasks i k b ≡ true)
  fell_within = gets_within s.tasks (plan_of s slots) i k some_deadline ticks_fell

  -- ==== so that they may be past H, and are below 12,000.
  pub fell_low : (a < 12000) × (b < 12000)
  unfolding release
  fell_low =
      let l = of_cycle.0 in
      gets_low s.tasks (plan_of s slots) i k some_deadline (of_sound.deadline_low i l) (of_sound.offset_low i l)
      (omega (arith, (job_in_cycle s of_sound i k l of_cycle.1).next, of_sound.low_cycle)) ticks_fell

-- ==== The same for the bytes that C passes; evidence of 32 bits shows both whole.
pub fell_in_bytes : (tasks slots : List ℕ) {i k c a b : ℕ} → judged_of tasks slots ≡ verdict.WrongCount i k c a b
    → Gets (set_of_tasks tasks).tasks (plan_of (set_of_tasks tasks) slots) i k c a b × (a < 12000) × (b < 12000)
unfolding judged_of
fell_in_bytes tasks slots {i} {k} {c} {a} {b} e =
    let w = by (taken_of tasks) e in
    let l = fell_low (set_of_tasks tasks) slots w in
    (ticks_fell (set_of_tasks tasks) slots w, l.0, l.1)
  where
    by : (t : Option TaskSet) → on_taking t slots ≡ verdict.WrongCount i k c a b
        → verdict_of (view (unwrap_or t (no_tasks 0 0))) slots ≡ verdict.WrongCount i k c a b
    by (Some s) e = e
    by None e = absurd (omega (arith, ap number_of e))

-- ==== A start with a state of 21 bytes answers as the judge does, with the same evidence.
pub start_as_judge : (tasks slots : List ℕ) → start_verdict tasks slots 21 ≡ judged_of tasks slots
unfolding start_verdict start_rules verdict_of judged_of first_of
start_as_judge tasks slots = by (taken_of tasks)
  where
    by : (t : Option TaskSet) → pick (not (is_some t)) verdict.BadSet (verdict_of (view (unwrap_or t (no_tasks 0 0))) slots) ≡ on_taking t slots
    by (Some s) = refl
    by None = refl
