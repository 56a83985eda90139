-- What the theorems shut out: judges, screens and steps that would be of no use do not satisfy them, and ours do.
use Rattle.std.specs.Prelude.{◌≡◌, true, false, List, [], ◌∷◌, ℕ, ◌^◌, ◌<◌, get_or, Option, Some, None, Ok}
use Rattle.std.proofs.Math.Path.{refl, ap}
use Rattle.std.proofs.Common.{sym, ◌∙◌, arith}
use Rattle.vocabulary.proofs.Test.{clash}
use Rattle.vocabulary.specs.Least.{least, greatest, all}
use Rattle.vocabulary.specs.First.{first_of}
use Rattle.vocabulary.specs.Count.{count}
use Rattle.vocabulary.specs.Total.{total}
use Rattle.vocabulary.specs.Table.{table, join}
use Rattle.vocabulary.specs.Bits.{has, pack}
use Rattle.vocabulary.specs.Multiple.{lcm, lcm_of}
use Rattle.graph.specs.Graph.{reach, loops}
use Rattle.graph.specs.Longest as longest
use Rattle.graph.specs.Soonest as soonest
use Rattle.kinds.specs.Limits.{holds}
use Rattle.kinds.specs.Tasks.{Set, tasks_of, patterns_of}
use Rattle.kinds.specs.Cycle.{cycle, jobs_of, jobs_before, jobs, cycle_fits}
use Rattle.kinds.specs.Jobs.{release, due, task_of_job, job_of_job}
use Rattle.kinds.specs.Links.{links}
use Rattle.kinds.specs.Sound.{attributes_fit, task_fits, opening_fits, sound}
use Rattle.kinds.specs.Plans.{plan_of, slot, shows, shown, awake, runs, ticks, first_tick, last_tick}
use Rattle.laws.proofs.JobTicks.{gets_ticks}
use Rattle.slots.specs.High.{high}
use Rattle.judge.specs.declared.Verdict.{Verdict}
use Rattle.judge.specs.declared.Verdict.TheVariants as verdict
use Rattle.judge.specs.Answers.{number_of}
use Rattle.judge.specs.Rules.{twin, mated, clashes, strays, strayed, miscounts, miscounted}
use Rattle.judge.specs.Judgement.{wrong_at, plan_rules, rules, verdict_of}
use Rattle.network.specs.Network.{cycle_links, link_starts, link_ends, network}
use Rattle.network.specs.Times.{own_release, own_due, own_running, release_by, adjusted_deadline}
use Rattle.network.specs.Causes.{on_cycle, load, room, tight_by}
use Rattle.screen.specs.declared.Finding.{Finding}
use Rattle.screen.specs.declared.Finding.TheVariants as finding
use Rattle.screen.specs.Answers.{finding_number}
use Rattle.screen.specs.Findings.{screen_rules, finding_by, finding_of}
use Rattle.dispatcher.specs.declared.State.{State}
use Rattle.dispatcher.specs.declared.Stepped.{Stepped}
use Rattle.dispatcher.specs.Steps.{releases, heard, done_at, done_of, asleep, byte_of, row_of, stands_at, in_row, ran_of, after_of, step_of}
use Rattle.dispatcher.specs.Refusals.{first_state, impossible, overreports, high_slot, is_high, high_place, step_rules, answer_by, if_shown, is_shown}
use Rattle.dispatcher.specs.Refusals.{lengths_fit, answer_of, stepped_of, left_of}
use Rattle.dispatcher.specs.Outcome.{StepOutcome}
use Rattle.theorems.specs.Names.{Names, Breach}
use Rattle.theorems.specs.Demand2.{first_rule, only_verdict}
use Rattle.theorems.specs.ScreenTrue.{Finds, finding_true, only_finding}

-- ---- two small sets, without patterns and with one processor
-- one task with T = C = D = 2 and O = 0: the cycle has two ticks, and the plan gives it both
abbrev small : Set
small = record { edition = 1; processors = 1; tasks = tasks_of 1 (2 ∷ 2 ∷ 0 ∷ 2 ∷ []); patterns = patterns_of 0 [] [] }

abbrev full : List ℕ
full = 1 ∷ 1 ∷ []

-- one of them
abbrev half : List ℕ
half = 1 ∷ 0 ∷ []

-- two tasks that each need every tick
abbrev crowded : Set
crowded = record { edition = 1; processors = 1; tasks = tasks_of 2 (1 ∷ 1 ∷ 0 ∷ 1 ∷ 1 ∷ 1 ∷ 0 ∷ 1 ∷ []); patterns = patterns_of 0 [] [] }

-- ---- judges
-- every verdict claims what is so
pub record RightJudge (judge : Set → List ℕ → Verdict) : Type 0 where
  pub names : (s : Set) (slots : List ℕ) → Names s slots (judge s slots)

pub right_judge : RightJudge verdict_of
right_judge = record { names = first_rule }

judged : (verdict_of small full ≡ verdict.Accepted) × (verdict_of small half ≡ verdict.WrongCount 0 0 1 0 0)
unfolding verdict_of rules plan_rules first_of least all count total lcm lcm_of holds cycle jobs_of jobs_before jobs cycle_fits release links attributes_fit
    task_fits opening_fits sound slot shows shown awake runs ticks high twin mated clashes strays strayed miscounts miscounted wrong_at first_tick last_tick
    greatest
judged = (refl, refl)

module _ (judge : Set → List ℕ → Verdict) (right : RightJudge judge) where
  accepts : judge small full ≡ verdict.Accepted
  accepts = only_verdict small full (judge small full) (right.names small full) ∙ judged.0

  refuses : judge small half ≡ verdict.WrongCount 0 0 1 0 0
  refuses = only_verdict small half (judge small half) (right.names small half) ∙ judged.1

  -- ==== A judge whose verdicts are so does not refuse everything,
  pub not_refuse_all : ((s : Set) (slots : List ℕ) → judge s slots ≡ verdict.Accepted → ⊥) → ⊥
  not_refuse_all h = h small full accepts

  -- ==== nor accept everything,
  pub not_accept_all : ((s : Set) (slots : List ℕ) → judge s slots ≡ verdict.Accepted) → ⊥
  not_accept_all h = omega (arith, ap number_of (sym (h small half) ∙ refuses))

  -- ==== nor give one verdict again and again.
  pub not_repeat : (v : Verdict) → ((s : Set) (slots : List ℕ) → judge s slots ≡ v) → ⊥
  not_repeat v h = omega (arith, ap number_of (sym accepts ∙ h small full ∙ sym (h small half) ∙ refuses))

-- ==== No number of 22 is invented: with another count than the ticks that the job gets, or another first or last tick, it does not claim what is so.
pub no_invented_ticks : (s : Set) (slots : List ℕ) (i k c a b : ℕ)
    → ((c ≡ ticks s.tasks (plan_of s slots) i k) × (a ≡ first_tick s.tasks (plan_of s slots) i k) × (b ≡ last_tick s.tasks (plan_of s slots) i k) → ⊥)
    → Names s slots (verdict.WrongCount i k c a b) → ⊥
unfolding Breach
no_invented_ticks s slots i k c a b h n = h (gets_ticks s.tasks (plan_of s slots) i k n.broken.1)

-- ---- screens
-- every finding is true
pub record RightScreen (screen : Set → Option Finding) : Type 0 where
  pub finds : (s : Set) → Finds s (screen s)

pub right_screen : RightScreen finding_of
right_screen = record { finds = finding_true }

screened : (finding_of small ≡ None) × (finding_of crowded ≡ Some (finding.Overload 2 1))
unfolding finding_by screen_rules first_of least all total table join lcm lcm_of reach loops holds cycle jobs_of jobs_before jobs cycle_fits release due
    task_of_job job_of_job longest.most longest.entry longest.rounds soonest.fewest soonest.due soonest.soonest links attributes_fit task_fits opening_fits
    sound cycle_links link_starts link_ends network own_release own_due own_running release_by adjusted_deadline on_cycle load room tight_by
screened = (refl, refl)

module _ (screen : Set → Option Finding) (right : RightScreen screen) where
  -- ==== A screen whose findings are true does not always find something,
  pub not_always_find : ((s : Set) → screen s ≡ None → ⊥) → ⊥
  not_always_find h = h small (only_finding small (screen small) (right.finds small) ∙ screened.0)

  -- ==== nor never.
  pub not_never_find : ((s : Set) → screen s ≡ None) → ⊥
  not_never_find h = omega (arith, ap finding_number (sym (h crowded) ∙ only_finding crowded (screen crowded) (right.finds crowded) ∙ screened.1))

-- ==== No number of 14 is invented: both are the sum of C·H/T and m·H.
pub no_invented_sum : (s : Set) (a b : ℕ) → (a ≡ load s.tasks → ⊥) → Finds s (Some (finding.Overload a b)) → ⊥
unfolding Finds
no_invented_sum s a b h f = h f.sum

pub no_invented_room : (s : Set) (a b : ℕ) → (b ≡ room s → ⊥) → Finds s (Some (finding.Overload a b)) → ⊥
unfolding Finds
no_invented_room s a b h f = h f.slots

-- ---- steps
-- what a step leaves: its answer with the next state, and the output
pub record Left : Type 0 where
  pub answer : Stepped
  pub out : List ℕ

abbrev pub Step : Type 0
Step = Set → List ℕ → State → ℕ → List ℕ → Left

-- it keeps its contract for every input
pub record RightStep (step : Step) : Type 0 where
  pub keeps : (s : Set) (slots : List ℕ) (state : State) (report : ℕ) (out : List ℕ)
      → StepOutcome s slots state report out (step s slots state report out).answer (step s slots state report out).out

pub right_step : RightStep (λ s slots state report out. record { answer = stepped_of s slots state report out; out = left_of s slots state report out })
right_step = record { keeps = λ s slots state report out. record { answer = refl; left = refl } }

-- the state before tick 1, where the task has run in tick 0, and the one before the second cycle
abbrev halfway : State
halfway = record { tick = 1; first = true; done = 0; ran = 1 }

abbrev around : State
around = record { tick = 0; first = false; done = 0; ran = 1 }

-- one step of the small plan: the answer, and the byte that is shown
record Shows (state : State) (report byte : ℕ) (next : State) : Type 0 where
  answer : stepped_of small full state report (0 ∷ []) ≡ record { answer = Ok tt; state = next }
  left : left_of small full state report (0 ∷ []) ≡ byte ∷ []

-- the first step, the second with and without a report, and the third
record Steps : Type 0 where
  first : Shows first_state 0 1 halfway
  unheard : Shows halfway 0 1 around
  heard : Shows halfway 1 0 (record { tick = 0; first = false; done = 1; ran = 0 })
  later : Shows around 0 1 (record { tick = 1; first = false; done = 0; ran = 1 })

steps : Steps
unfolding stepped_of left_of answer_of answer_by step_rules if_shown lengths_fit first_of is_high high_slot high_place overreports impossible releases heard
    done_at done_of asleep byte_of row_of stands_at in_row ran_of after_of step_of least all total table has pack lcm lcm_of holds cycle jobs_of jobs_before
    jobs cycle_fits links attributes_fit task_fits opening_fits sound
steps =
    record {
      first = record { answer = refl; left = refl };
      unheard = record { answer = refl; left = refl };
      heard = record { answer = refl; left = refl };
      later = record { answer = refl; left = refl };
    }

module _ (step : Step) (right : RightStep step) where
  abbrev leaves : State → ℕ → Left
  leaves state report = step small full state report (0 ∷ [])

  byte_is : (state : State) (report byte : ℕ) {next : State} → Shows state report byte next → get_or (leaves state report).out 0 0 ≡ byte
  byte_is state report byte w = ap (λ (xs : List ℕ). get_or xs 0 0) ((right.keeps small full state report (0 ∷ [])).left ∙ w.left)

  answer_is : (state : State) (report byte : ℕ) (next : State) → Shows state report byte next
      → (leaves state report).answer ≡ record { answer = Ok tt; state = next }
  answer_is state report byte next w = (right.keeps small full state report (0 ∷ [])).answer ∙ w.answer

  -- ==== A step that keeps its contract does not leave every output as it is,
  pub not_show_nothing : ((s : Set) (slots : List ℕ) (state : State) (report : ℕ) (out : List ℕ) → (step s slots state report out).out ≡ out) → ⊥
  not_show_nothing h =
      omega (arith, byte_is first_state 0 1 steps.first, ap (λ (xs : List ℕ). get_or xs 0 0) (h small full first_state 0 (0 ∷ [])))

  -- ==== nor every state,
  pub not_stand_still : ((s : Set) (slots : List ℕ) (state : State) (report : ℕ) (out : List ℕ) → (step s slots state report out).answer.state ≡ state) → ⊥
  not_stand_still h =
      omega (
        arith,
        ap (λ (x : Stepped). x.state.tick) (answer_is first_state 0 1 halfway steps.first),
        ap (λ (x : State). x.tick) (h small full first_state 0 (0 ∷ [])),
      )

  -- ==== nor show the same whatever tasks of the set report,
  pub not_deaf : ((s : Set) (slots : List ℕ) (state : State) (out : List ℕ) (a b : ℕ) → a < 2 ^ s.tasks.count → b < 2 ^ s.tasks.count
      → (step s slots state a out).out ≡ (step s slots state b out).out) → ⊥
  not_deaf h =
      omega (
        arith,
        byte_is halfway 0 1 steps.unheard,
        byte_is halfway 1 0 steps.heard,
        ap (λ (xs : List ℕ). get_or xs 0 0) (h small full halfway (0 ∷ []) 0 1 (omega arith) (omega arith)),
      )

  -- ==== nor show nothing in every tick after the first cycle,
  pub not_idle_later : ((s : Set) (slots : List ℕ) (state : State) (report : ℕ) (out : List ℕ) → state.first ≡ false
      → is_shown (step s slots state report out).answer.answer ≡ true → (q : ℕ) → get_or (step s slots state report out).out q 0 ≡ 0) → ⊥
  unfolding if_shown
  not_idle_later h =
      let a = ap (λ (x : Stepped). is_shown x.answer) (answer_is around 0 1 (record { tick = 1; first = false; done = 0; ran = 1 }) steps.later) in
      omega (arith, byte_is around 0 1 steps.later, h small full around 0 (0 ∷ []) refl a 0)

  -- ==== nor refuse always.
  pub not_refuse_always : ((s : Set) (slots : List ℕ) (state : State) (report : ℕ) (out : List ℕ)
      → is_shown (step s slots state report out).answer.answer ≡ false) → ⊥
  unfolding if_shown
  not_refuse_always h =
      let a = ap (λ (x : Stepped). is_shown x.answer) (answer_is first_state 0 1 halfway steps.first) in
      clash a (h small full first_state 0 (0 ∷ []))
