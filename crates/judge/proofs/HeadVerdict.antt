-- The verdict on a head by its ways out: bytes that are no head, or more than one, and the tables of one that is whole.
use mathlib.Core.Path.{◌≡◌, sym, ap}
use mathlib.Core.List.{List}
use Prim.Native.Nat.{ℕ}
use Rattle.kinds.specs.declared.Counts.{Counts}
use Rattle.kinds.specs.Tasks.{view}
use Rattle.heads.specs.Tables.{PatternTables, no_pattern_tables}
use Rattle.heads.specs.Heads.{set_of}
use Rattle.std.specs.Prelude.{Option, Some, None}
use Rattle.kinds.specs.declared.TaskSet.{TaskSet}
use Rattle.reader.specs.Files.{whole_read, whole_from}
use Rattle.reader.proofs.WholeLaws.{whole_none, whole_some}
use Rattle.judge.specs.declared.Verdict.TheVariants as verdict
use Rattle.judge.specs.Judgement.{verdict_of}
use Rattle.judge.specs.Heads.{on_taking, judged_of}

module _ (tasks t : List ℕ) (v : PatternTables) (slots : List ℕ) {c : Option Counts} (read : whole_read c t v ≡ whole_from tasks no_pattern_tables) where
  pub no_head : c ≡ None → verdict.BadSet ≡ judged_of tasks slots
  unfolding judged_of
  no_head z = ap (λ (x : Option TaskSet). on_taking x slots) (sym (whole_none tasks t v read z))

  pub head_judged : {f : Counts} → c ≡ Some f → verdict_of (view (set_of f t v)) slots ≡ judged_of tasks slots
  unfolding judged_of
  head_judged z = ap (λ (x : Option TaskSet). on_taking x slots) (sym (whole_some tasks t v read z).taken)
