-- What can be asked of the definitions, and what they answer, in the numbers of docs/RULES.md.
use Rattle.std.specs.Prelude.{◌≡◌, List, [], ◌∷◌, map, ℕ, suc, ◌+◌, ◌^◌, eqb, ℤ, length, get_or, Result, Option}
use Rattle.vocabulary.specs.Test.{pick}
use Rattle.vocabulary.specs.Table.{table, gather}
use Rattle.kinds.specs.Tasks.{Tasks, Set, tasks_of, patterns_of, deadline}
use Rattle.kinds.specs.Cycle.{jobs}
use Rattle.kinds.specs.Jobs.{release}
use Rattle.kinds.specs.Links.{links}
use Rattle.kinds.specs.Plans.{plan_of, runs_past, ticks, first_tick, last_tick}
use Rattle.reader.specs.Files.{outcome_read}
use Rattle.numbers.specs.Answers.{numeral_number, numeral_evidence}
use Rattle.numbers.specs.Numbers.{Number, number_at}
use Rattle.reader.specs.Answers as readerAnswers
use Rattle.writer.specs.declared.WriteError.{WriteError}
use Rattle.writer.specs.Writing.{write_for, write_head_for}
use Rattle.writer.specs.Answers as writeAnswers
use Rattle.judge.specs.declared.Verdict.{Verdict}
use Rattle.judge.specs.Judgement.{verdict_of}
use Rattle.judge.specs.Heads.{judged_of}
use Rattle.judge.specs.Answers as judgeAnswers
use Rattle.screen.specs.declared.Finding.{Finding}
use Rattle.screen.specs.Answers.{Adjusted}
use Rattle.screen.specs.Findings.{finding_of, adjusted_of, releases_left, deadlines_left}
use Rattle.screen.specs.Heads.{screened_of, adjusted_head, releases_kept, deadlines_kept}
use Rattle.network.specs.Times.{adjusted_deadline}
use Rattle.screen.specs.Answers as screenAnswers
use Rattle.dispatcher.specs.declared.State.{State}
use Rattle.dispatcher.specs.Answers.{Answer}
use Rattle.dispatcher.specs.Refusals.{started_of, stepped_of, left_of}
use Rattle.dispatcher.specs.Bytes.{bytes_of}
use Rattle.dispatcher.specs.ForC.{start_for, step_for}
use Rattle.dispatcher.specs.Answers as stepAnswers
use Rattle.dispatcher.specs.Runs.{play_of, shown_at}

pub data Question : Type 0 where
  -- how long is this file, and what does the reader answer
  length_of : List ℕ → Question
  reading : List ℕ → Question
  -- which number do these bytes make
  number : List ℕ → Question
  -- what does the judge say of a plan, and the screen of a set
  judging : Set → List ℕ → Question
  screening : Set → Question
  -- the adjusted deadlines of a set
  deadlines : Set → Question
  -- what is shown from tick a on, for n ticks, where step k is handed report k
  playing : Set → List ℕ → (ℕ → ℕ) → ℕ → ℕ → Question
  -- at which ticks of its window does job k of task i run; how many are they, which is the first, and which the last
  running_at : Set → List ℕ → ℕ → ℕ → Question
  getting : Set → List ℕ → ℕ → ℕ → Question
  -- how many links does a set make in a cycle
  linking : Set → Question
  -- what does the call for adjusted times answer, and what do two buffers hold afterwards
  adjusting : Set → List ℤ → List ℤ → Question
  -- what does the writer answer for a plan, and what does a buffer hold afterwards
  writing : Set → List ℕ → List ℕ → Question
  -- what do starting and stepping answer, and what do they leave in state and output
  starting : Set → List ℕ → State → Question
  stepping : Set → List ℕ → State → ℕ → List ℕ → Question
  -- the same for C, where a set is the bytes of a file's head and a state is 21 bytes
  screening_head : List ℕ → Question
  adjusting_head : List ℕ → List ℤ → List ℤ → Question
  judging_head : List ℕ → List ℕ → Question
  writing_head : List ℕ → List ℕ → List ℕ → Question
  starting_head : List ℕ → List ℕ → List ℕ → Question
  stepping_head : List ℕ → List ℕ → ℕ → List ℕ → List ℕ → Question

pub data Reply : Type 0 where
  is : ℕ → Reply
  refused_by : ℕ → Reply
  -- number and evidence
  says : List ℕ → Reply
  times : List ℤ → Reply
  rows : List (List ℕ) → Reply
  at : List ℕ → Reply
  gets : ℕ → ℕ → ℕ → Reply
  -- number and evidence, and what two buffers hold
  adjusts : List ℕ → List ℤ → List ℤ → Reply
  -- number and evidence, and what a buffer holds
  writes : List ℕ → List ℕ → Reply
  -- number and evidence, the state's bytes, and the output
  leaves : List ℕ → List ℕ → List ℕ → Reply

-- what stands at the start of bytes: the first of its evidence, or the number that refuses it
unfoldable pub number_reply : List ℕ → Reply
number_reply s =
    let n : Number = number_at s 0 in
    pick (eqb (numeral_number n) 0) (is (get_or (numeral_evidence n (length s) 0) 0 0)) (refused_by (numeral_number n))

-- number and evidence of an answer
abbrev pub finding_said : Option Finding → List ℕ
finding_said f = screenAnswers.finding_number f ∷ screenAnswers.finding_evidence f

abbrev pub adjusted_said : Adjusted → List ℕ
adjusted_said a = screenAnswers.adjusted_number a ∷ screenAnswers.adjusted_evidence a

abbrev pub verdict_said : Verdict → List ℕ
verdict_said v = judgeAnswers.number_of v ∷ judgeAnswers.evidence_of v

abbrev pub written_said : Result ℕ WriteError → List ℕ
written_said w = writeAnswers.number_of w ∷ writeAnswers.evidence_of w

abbrev pub step_said : Answer → List ℕ
step_said a = stepAnswers.number_of a ∷ stepAnswers.evidence_of a

unfoldable pub reply : Question → Reply
reply (length_of file) = is (length file)
reply (reading file) = let o = outcome_read file in says (readerAnswers.number_of o ∷ readerAnswers.evidence_of o)
reply (number s) = number_reply s
reply (judging s slots) = says (verdict_said (verdict_of s slots))
reply (screening s) = says (finding_said (finding_of s))
reply (deadlines s) = times (table (adjusted_deadline s.tasks s.patterns) (jobs s.tasks))
reply (playing s slots reports a n) = rows (table (λ k. shown_at (play_of s slots) reports (a + k)) n)
reply (running_at s slots i k) =
    let u : Tasks = s.tasks in
    at (gather (λ x. release u i k + x) (runs_past u (plan_of s slots) i k) (deadline u i))
reply (getting s slots i k) =
    let u : Tasks = s.tasks in
    gets (ticks u (plan_of s slots) i k) (first_tick u (plan_of s slots) i k) (last_tick u (plan_of s slots) i k)
reply (linking s) = is (links s.tasks s.patterns)
reply (adjusting s r d) = adjusts (adjusted_said (adjusted_of s (length r) (length d))) (releases_left s r d) (deadlines_left s r d)
reply (writing s slots out) = let x = write_for s slots out in writes (written_said x.answer) x.out
reply (starting s slots state) = let x = started_of s slots state in leaves (verdict_said x.verdict) (bytes_of x.state) []
reply (stepping s slots state report out) =
    let x = stepped_of s slots state report out in
    leaves (step_said x.answer) (bytes_of x.state) (left_of s slots state report out)
reply (screening_head head) = says (finding_said (screened_of head))
reply (adjusting_head head r d) = adjusts (adjusted_said (adjusted_head head (length r) (length d))) (releases_kept head r d) (deadlines_kept head r d)
reply (judging_head head slots) = says (verdict_said (judged_of head slots))
reply (writing_head head slots out) = let x = write_head_for head slots out in writes (written_said x.answer) x.out
reply (starting_head head slots b) = let x = start_for head slots b in leaves (verdict_said x.verdict) x.state []
reply (stepping_head head slots report b out) = let x = step_for head slots report b out in leaves (step_said x.answer) x.state x.out

-- ---- sets by their rows: T, C, O, D of each task; from, to and the one pair of each pattern
abbrev pub TaskRow : Type 0
TaskRow = ℕ × ℕ × ℕ × ℕ

abbrev pub PatternRow : Type 0
PatternRow = ℕ × ℕ × ℕ × ℕ

-- their numbers, one row after another
unfoldable pub task_numbers : List TaskRow → List ℕ
task_numbers [] = []
task_numbers (t ∷ ts) = t.0 ∷ t.1 ∷ t.2 ∷ t.3 ∷ task_numbers ts

unfoldable pub heading_numbers : List PatternRow → List ℕ
heading_numbers [] = []
heading_numbers (p ∷ ps) = p.0 ∷ p.1 ∷ 1 ∷ heading_numbers ps

unfoldable pub pair_numbers : List PatternRow → List ℕ
pair_numbers [] = []
pair_numbers (p ∷ ps) = p.2 ∷ p.3 ∷ pair_numbers ps

unfoldable pub set_of : ℕ → List TaskRow → List PatternRow → Set
set_of m ts ps =
    record {
      edition = 1;
      processors = m;
      tasks = tasks_of (length ts) (task_numbers ts);
      patterns = patterns_of (length ps) (heading_numbers ps) (pair_numbers ps);
    }

-- sets of any kind, in order or not: edition, m, the tasks, then from, to and pair count of each pattern, and the pairs of all patterns
unfoldable pub raw_headings : List (ℕ × ℕ × ℕ) → List ℕ
raw_headings [] = []
raw_headings (h ∷ hs) = h.0 ∷ h.1 ∷ h.2 ∷ raw_headings hs

unfoldable pub raw_pairs : List (ℕ × ℕ) → List ℕ
raw_pairs [] = []
raw_pairs (p ∷ ps) = p.0 ∷ p.1 ∷ raw_pairs ps

unfoldable pub lent_set : ℕ → ℕ → List TaskRow → List (ℕ × ℕ × ℕ) → List (ℕ × ℕ) → Set
lent_set e m ts hs ps =
    record {
      edition = e;
      processors = m;
      tasks = tasks_of (length ts) (task_numbers ts);
      patterns = patterns_of (length hs) (raw_headings hs) (raw_pairs ps);
    }

-- ---- a table of questions and replies, and what it states: each question has its reply
abbrev pub Row : Type 0
Row = Question × Reply

abbrev pub Answered : List Row → Type 0
Answered rs = map (λ (r : Row). reply r.0) rs ≡ map (λ (r : Row). r.1) rs

-- nobody reports
unfoldable pub silence : ℕ → ℕ
silence n = 0

-- task i reports after tick t: the step after that tick is handed its bit
unfoldable pub report_after : ℕ → ℕ → ℕ → ℕ
report_after i t n = pick (eqb n (suc t)) (2 ^ i) 0
