-- What one walk over the slots tells of rules 20 and 21, and of the table of jobs.
use Rattle.std.specs.Prelude.{◌≡◌, true, false, List, ◌⊎◌, ℕ, ◌*◌, ◌<◌, Option, Some, None}
use Rattle.vocabulary.specs.Least.{some, Seeking}
use Rattle.kinds.specs.Tasks.{Tasks}
use Rattle.kinds.specs.Plans.{Plan}
use Rattle.judge.specs.Rules.{clashes, strayed}
use Rattle.judge.specs.JobTable.{EachJobGets}
use Rattle.judge.specs.JobOfSlot.{outside}

-- Rules 20 and 21 are kept, and the table tells.
pub record Clean (u : Tasks) (p : Plan) (rows : List (List ℕ)) : Type 0 where
  pub once : (c : ℕ) → c < p.cycle → clashes p c ≡ false
  pub inside : (c : ℕ) → c < p.cycle → strayed u p c ≡ false
  pub gets : EachJobGets u p rows

-- The walk stopped at slot e: a task stands twice in some tick, or else e is the first slot outside its task's windows.
pub record FirstOutside (u : Tasks) (p : Plan) (e : ℕ) : Type 0 where
  pub seen : Seeking (outside u p) (p.cycle * p.processors) e
  pub out : outside u p e ≡ true

pub record Halted (u : Tasks) (p : Plan) (e : ℕ) : Type 0 where
  pub low : e < p.cycle * p.processors
  pub why : (some (clashes p) p.cycle ≡ true) ⊎ FirstOutside u p e

-- What it answers: the slot where it stopped, or that it came to the end, where both rules are kept.
pub record Swept (u : Tasks) (p : Plan) (r : Option ℕ) (rows : List (List ℕ)) : Type 0 where
  pub good : r ≡ None → Clean u p rows
  pub bad : (e : ℕ) → r ≡ Some e → Halted u p e
