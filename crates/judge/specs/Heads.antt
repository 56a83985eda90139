-- The verdict for C, which passes tasks and m as the bytes of a head (rules R12.1, R12.6).
use Rattle.std.specs.Prelude.{List, ℕ, Option, Some, None}
use Rattle.kinds.specs.declared.TaskSet.{TaskSet}
use Rattle.kinds.specs.Tasks.{view}
use Rattle.reader.specs.Files.{taken_of}
use Rattle.judge.specs.declared.Verdict.{Verdict}
use Rattle.judge.specs.declared.Verdict.TheVariants as verdict
use Rattle.judge.specs.Judgement.{verdict_of}

abbrev pub on_taking : Option TaskSet → List ℕ → Verdict
on_taking (Some s) slots = verdict_of (view s) slots
on_taking None slots = verdict.BadSet

unfoldable pub judged_of : List ℕ → List ℕ → Verdict
judged_of tasks slots = on_taking (taken_of tasks) slots
