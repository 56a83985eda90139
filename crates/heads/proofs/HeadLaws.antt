-- A head that was let through: its set keeps rule 10, entries beyond the counts are 0, and the cycle is that of its tasks.
use mathlib.Core.Bool.{true}
use mathlib.Core.Path.{◌≡◌, sym, subst}
use mathlib.Core.List.{List}
use Prim.Native.Nat.{ℕ, ◌*◌, ◌<◌, ◌≤◌}
use native.Mathlib.Omega.{arith}
use borrow.Author.Tests.{leb-true}
use lib.Dec.{leb}
use Rattle.std.specs.Prelude.{Ok}
use Rattle.vocabulary.proofs.Test.{both}
use Rattle.vocabulary.specs.Least.{all}
use Rattle.vocabulary.proofs.Least.{all_from}
use Rattle.vocabulary.proofs.Keep.{row_none}
use Rattle.kinds.specs.declared.Task.{Task}
use Rattle.kinds.specs.declared.TaskSet.{TaskSet}
use Rattle.kinds.specs.Limits.{holds, periods, no_key}
use Rattle.kinds.specs.Tasks.{Tasks, tasks_of, task_at, view, pairs_in}
use Rattle.kinds.specs.Cycle.{cycle, jobs, cycle_fits}
use Rattle.kinds.specs.Sound.{attributes_fit, task_fits, opening_fits, pattern_fits, sound, PatternsAsked, patterns_tested}
use Rattle.std.specs.Prelude.{Some}
use Rattle.kinds.specs.Links.{links}
use Rattle.kinds.specs.RangeLaws.{holds_at, pick_some}
use Rattle.kinds.proofs.PatternWalk.{walk_from_lem, tested_yes}
use Rattle.kinds.specs.SoundByTests.{few_tasks}
use Rattle.kinds.proofs.Rows.{row_less}
use Rattle.kinds.proofs.Blank.{Blank}
use Rattle.kinds.specs.declared.Counts.{Counts}
use Rattle.heads.specs.Tables.{PatternTables, no_attributes, no_pattern_tables, progress}
use Rattle.heads.specs.Heads.{counts_are, HeadRead, head_read, head_from, set_of}
use Rattle.heads.proofs.ReadInRange.{opening_fits_lem, MiddleFits, middle_fits}
use Rattle.heads.proofs.ReadSteps.{HeadWent, head_went}
use Rattle.heads.proofs.ReadIsSound.{TasksDone, tasks_all, PatternsRow, patterns_in, PatternsDone, patterns_done}

-- the head that is read into tables that are all 0, and its set
abbrev pub head_of : List ℕ → HeadRead
head_of s = head_from s no_attributes no_pattern_tables

abbrev pub set_in : HeadRead → Counts → TaskSet
set_in r f = set_of f r.tasks r.patterns

pub record HeadSound (r : HeadRead) (f : Counts) : Type 0 where
  pub is_sound : sound (view (set_in r f)) ≡ true
  pub blank : Blank (set_in r f)
  pub ticks : f.ticks ≡ cycle (view (set_in r f)).tasks
  pub jobs : f.jobs ≡ jobs (view (set_in r f)).tasks

no_patterns : PatternsRow no_pattern_tables 0 0
no_patterns = record { headings = row_none 192; pairs = row_none 2048 }

period_fits : (t : Task) → attributes_fit t ≡ true → (0 < t.period) × (t.period ≤ 6000)
unfolding attributes_fit
period_fits t e = let w = holds_at 1 6001 t.period (both {a = holds periods t.period} e).0 in (w.0, omega arith)

low_cycle : (u : Tasks) → cycle_fits u ≡ true → cycle u ≤ 6000
unfolding cycle_fits
low_cycle u e = leb-true (cycle u) 6000 (both {a = leb (cycle u) 6000} e).0

module _ (s : List ℕ) (f : Counts) (at : ℕ) (w : HeadWent s no_attributes no_pattern_tables f at) where
  abbrev n : ℕ
  n = w.n

  abbrev u : List ℕ
  u = w.tasks

  abbrev v : PatternTables
  v = w.patterns

  abbrev t : Tasks
  t = tasks_of n u

  opened : opening_fits w.e n w.m ≡ true
  opened = opening_fits_lem s w.e n w.m w.p₀ w.opened

  few : n ≤ 64
  few = few_tasks w.e n w.m opened

  tasked : TasksDone u n
  tasked = tasks_all s n w.p₀ u w.p₁ few w.tasked

  between : MiddleFits t w.cy w.k
  between = middle_fits s w.p₁ t w.cy w.k w.p₂ w.between

  asked : PatternsAsked t (patterns_in v w.k) w.cy.ticks
  asked =
      record {
        tasks = few;
        patterns = omega (arith, holds_at 0 65 w.k between.few);
        periods = λ i l. period_fits (task_at u i) (tasked.fits i l);
        ticks = between.ticks;
        short = omega (arith, between.ticks, low_cycle t between.cycle_fits_lem);
      }

  patterned : PatternsDone w.e t v w.k w.l
  patterned =
      patterns_done s w.e w.cy.ticks t v w.k asked w.k 0 (progress w.p₂ no_key 0 0) no_pattern_tables at w.l (omega arith) (walk_from_lem w.e t (patterns_in v w.k)) no_patterns w.patterned

  tested : Some w.l ≡ patterns_tested w.e t (patterns_in v w.k)
  tested = tested_yes w.e t (patterns_in v w.k) w.k patterned.walking (omega arith)

  linked : (all (pattern_fits w.e t (patterns_in v w.k)) w.k ≡ true) × (w.l ≡ links t (patterns_in v w.k))
  unfolding patterns_tested
  linked = pick_some (all (pattern_fits w.e t (patterns_in v w.k)) w.k) tested

  all_tasks : all (task_fits t) n ≡ true
  unfolding task_fits
  all_tasks = all_from (task_fits t) n tasked.fits

  abbrev shape : Counts
  shape = counts_are w.e w.m n w.k w.cy

  set_sound : sound (view (set_of shape u v)) ≡ true
  unfolding sound
  set_sound =
      rw (opened, all_tasks, between.cycle_fits_lem, between.few, linked.0, ← linked.1) w.few

  set_blank : Blank (set_of shape u v)
  set_blank =
      let r = patterned.rows in
      record {
        attributes = tasked.row;
        headings = r.headings;
        pairs = row_less v.pairs 2048 (2 * patterned.used) (2 * pairs_in v.headings w.k) (omega (arith, patterned.walking.before)) r.pairs;
      }

  went_sound : HeadSound (head_read (Ok (f, at)) u v) f
  went_sound =
      subst (λ (g : Counts). HeadSound (head_read (Ok (f, at)) u v) g) w.shape
      (record { is_sound = set_sound; blank = set_blank; ticks = between.ticks; jobs = between.jobs })

pub head_sound : (s : List ℕ) (f : Counts) (at : ℕ) → (head_of s).outcome ≡ Ok (f, at) → HeadSound (head_of s) f
head_sound s f at e =
    let w = head_went s no_attributes no_pattern_tables f at e in
    subst (λ (r : HeadRead). HeadSound r f) (sym w.is) (went_sound s f at w)
