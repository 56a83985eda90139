-- What a job with a wrong count asks for: the running time of its task.
use Rattle.std.specs.Prelude.{List, ℕ, Option, Some, None}
use Rattle.kinds.specs.Tasks.{task_in}
use Rattle.judge.specs.declared.Verdict.{Verdict}
use Rattle.judge.specs.declared.Verdict.TheVariants as verdict

-- for 22 (rule R10.4) the C of the job; none for any other verdict
unfoldable pub asked_by : Verdict → List ℕ → Option ℕ
asked_by verdict.Accepted xs = None
asked_by verdict.BadSet xs = None
asked_by verdict.WrongLength xs = None
asked_by (verdict.BadSlot e) xs = None
asked_by (verdict.Twice t q r) xs = None
asked_by (verdict.Outside t q) xs = None
asked_by (verdict.WrongCount i k c a b) xs = Some ((task_in xs i).running)
asked_by (verdict.BrokenLink k q n) xs = None
