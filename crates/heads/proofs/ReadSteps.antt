-- Where reading was not refused: what each turn of it read.
use mathlib.Core.Bool.{true}
use mathlib.Core.Path.{◌≡◌, refl, sym}
use mathlib.Core.List.{List}
use Prim.Native.Nat.{ℕ, suc, ◌+◌}
use lib.Dec.{leb}
use Rattle.std.specs.Prelude.{Ok, Err}
use Rattle.vocabulary.proofs.Test.{took}
use Rattle.kinds.specs.declared.Key.{Key}
use Rattle.kinds.specs.declared.Spans.{Spans}
use Rattle.kinds.specs.Limits.{no_key, after, most_links}
use Rattle.kinds.specs.declared.Task.{Task}
use Rattle.kinds.specs.Tasks.{Tasks, tasks_of, period, put_task, put_pair}
use Rattle.kinds.specs.Links.{spans_of, links_in}
use Rattle.heads.specs.declared.Progress.{Progress}
use Rattle.kinds.specs.declared.Counts.{Counts}
use Rattle.kinds.specs.declared.Cycle.{Cycle}
use Rattle.numbers.specs.Results.{err_ok, ok_first, ok_second}
use Rattle.heads.specs.Tables.{TaskRead, Two, Heading, Outcome, Reached, Linked, pattern, task_from, TasksRead, on_task, tasks_from, tasks_read, two_at, PairsRead, on_two, pairs_from, pairs_read, PatternTables, heading_at}
use Rattle.heads.specs.Tables.{with_pattern, progress, PatternRead, pattern_read, on_heading, on_pairs, pattern_from}
use Rattle.heads.specs.Tables.{PatternsRead, patterns_read, on_pattern, patterns_from}
use Rattle.heads.specs.Heads.{OpeningRead, Middle, opening, counts_are, patterns_after, opening_of, middle_from, head_read, on_opening, on_tasks, on_middle, on_patterns, head_from}

-- ---- a task
pub record TasksWent (s : List ℕ) (k i at : ℕ) (u : List ℕ) : Type 0 where
  pub task : Task
  pub next : ℕ
  pub is : task_from s at ≡ Ok (task, next)
  pub rest : tasks_from s (suc k) i at u ≡ tasks_from s k (i + 1) next (put_task u i task)

pub tasks_went : (s : List ℕ) (k i at : ℕ) (u : List ℕ) (q : ℕ) → (tasks_from s (suc k) i at u).outcome ≡ Ok q → TasksWent s k i at u
unfolding tasks_from on_task
tasks_went s k i at u q e = by (task_from s at) refl e
  where
    by : (r : TaskRead) → task_from s at ≡ r → (on_task r u (λ t next. tasks_from s k (i + 1) next (put_task u i t))).outcome ≡ Ok q → TasksWent s k i at u
    by (Ok (t, p)) h o = record { task = t; next = p; is = h; rest = rw h }
    by (Err r) h o = absurd (err_ok o)

-- ---- a pair
pub record PairsWent (s : List ℕ) (k at : ℕ) (low : Key) (la lb j : ℕ) (u : List ℕ) : Type 0 where
  pub x : ℕ
  pub y : ℕ
  pub next : ℕ
  pub is : two_at s at low la lb ≡ Ok (x, y, next)
  pub rest : pairs_from s (suc k) at low la lb j u ≡ pairs_from s k next (after x y) la lb (j + 1) (put_pair u j x y)

pub pairs_went : (s : List ℕ) (k at : ℕ) (low : Key) (la lb j : ℕ) (u : List ℕ) (q : ℕ) → (pairs_from s (suc k) at low la lb j u).outcome ≡ Ok q → PairsWent s k at low la lb j u
unfolding pairs_from on_two
pairs_went s k at low la lb j u q e = by (two_at s at low la lb) refl e
  where
    by : (r : Two) → two_at s at low la lb ≡ r → (on_two r u (λ x y next. pairs_from s k next (after x y) la lb (j + 1) (put_pair u j x y))).outcome ≡ Ok q → PairsWent s k at low la lb j u
    by (Ok (x, y, p)) h o = record { x = x; y = y; next = p; is = h; rest = rw h }
    by (Err r) h o = absurd (err_ok o)

-- ---- a pattern
pub record PatternWent (s : List ℕ) (e : ℕ) (t : Tasks) (h i : ℕ) (done : Progress) (u : PatternTables) : Type 0 where
  pub x : ℕ
  pub y : ℕ
  pub c : ℕ
  pub p : ℕ
  pub q : ℕ
  pub spans : Spans
  pub v : List ℕ
  pub is : heading_at s done.at done.low t.count done.used ≡ Ok (pattern x y c, p)
  pub spans_are : spans ≡ spans_of e (period t x) (period t y)
  pub pairs : pairs_from s c p no_key spans.first spans.second done.used u.pairs ≡ pairs_read (Ok q) v
  pub to : pattern_from s e t h i done u
      ≡ pattern_read (Ok (progress q (after x y) (done.used + c) (done.links + links_in c h spans.whole))) (with_pattern u i x y c v)

module _ (s : List ℕ) (e : ℕ) (t : Tasks) (h i : ℕ) (done : Progress) (u : PatternTables) where
  abbrev after_pairs : ℕ → ℕ → ℕ → Spans → PairsRead → PatternRead
  after_pairs x y c m r =
      on_pairs r.outcome (with_pattern u i x y c r.table) λ q.
      progress q (after x y) (done.used + c) (done.links + links_in c h m.whole)

  abbrev after_heading : ℕ → ℕ → ℕ → ℕ → PatternRead
  after_heading x y c p =
      let m : Spans = spans_of e (period t x) (period t y) in
      after_pairs x y c m (pairs_from s c p no_key m.first m.second done.used u.pairs)

  pub pattern_went : {next : Progress} → (pattern_from s e t h i done u).outcome ≡ Ok next → PatternWent s e t h i done u
  unfolding pattern_from on_heading on_pairs
  pattern_went {next} g = by (heading_at s done.at done.low t.count done.used) refl g
    where
      pairs_by : (x y c p : ℕ) → heading_at s done.at done.low t.count done.used ≡ Ok (pattern x y c, p)
          → (m : Spans) → spans_of e (period t x) (period t y) ≡ m
          → (o : Outcome) (v : List ℕ) → pairs_from s c p no_key m.first m.second done.used u.pairs ≡ pairs_read o v
          → (after_pairs x y c m (pairs_read o v)).outcome ≡ Ok next → PatternWent s e t h i done u
      pairs_by x y c p a m b (Ok z) v d o =
          record { x = x; y = y; c = c; p = p; q = z; spans = m; v = v; is = a; spans_are = sym b; pairs = d; to = rw (a, b, d) }
      pairs_by x y c p a m b (Err r) v d o = absurd (err_ok o)

      by : (r : Heading) → heading_at s done.at done.low t.count done.used ≡ r
          → (on_heading r u after_heading).outcome ≡ Ok next → PatternWent s e t h i done u
      by (Ok (g, p)) a o =
          let m : Spans = spans_of e (period t g.from) (period t g.to) in
          let r : PairsRead = pairs_from s g.pairs p no_key m.first m.second done.used u.pairs in
          pairs_by g.from g.to g.pairs p a m refl r.outcome r.table refl o
      by (Err r) a o = absurd (err_ok o)

  -- ---- and those after it
  pub patterns_went : (k q l : ℕ) → (patterns_from s e t h (suc k) i done u).outcome ≡ Ok (q, l) → PatternWent s e t h i done u
  unfolding patterns_from on_pattern
  patterns_went k q l g = by (pattern_from s e t h i done u).outcome refl g
    where
      w : PatternTables
      w = (pattern_from s e t h i done u).tables

      by : (r : Reached) → (pattern_from s e t h i done u).outcome ≡ r → (on_pattern r w (λ next. patterns_from s e t h k (i + 1) next w)).outcome ≡ Ok (q, l)
          → PatternWent s e t h i done u
      by (Ok next) a o = pattern_went a
      by (Err r) a o = absurd (err_ok o)

  pub patterns_rest : (k : ℕ) (w : PatternWent s e t h i done u) → patterns_from s e t h (suc k) i done u
      ≡ patterns_from s e t h k (i + 1) (progress w.q (after w.x w.y) (done.used + w.c) (done.links + links_in w.c h w.spans.whole))
      (with_pattern u i w.x w.y w.c w.v)
  unfolding patterns_from on_pattern
  patterns_rest k w = rw w.to

-- ---- the head
pub record HeadWent (s : List ℕ) (t : List ℕ) (v : PatternTables) (f : Counts) (at : ℕ) : Type 0 where
  pub e : ℕ
  pub n : ℕ
  pub m : ℕ
  pub p₀ : ℕ
  pub p₁ : ℕ
  pub p₂ : ℕ
  pub cy : Cycle
  pub k : ℕ
  pub l : ℕ
  pub tasks : List ℕ
  pub patterns : PatternTables
  pub opened : opening_of s ≡ Ok (opening e n m, p₀)
  pub tasked : tasks_from s n 0 p₀ t ≡ tasks_read (Ok p₁) tasks
  pub between : middle_from s p₁ (tasks_of n tasks) ≡ Ok (cy, k, p₂)
  pub patterned : patterns_after s p₂ (counts_are e m n k cy) tasks v ≡ patterns_read (Ok (at, l)) patterns
  pub few : leb l most_links ≡ true
  pub shape : counts_are e m n k cy ≡ f
  pub is : head_from s t v ≡ head_read (Ok (f, at)) tasks patterns

module _ (s : List ℕ) (t : List ℕ) (v : PatternTables) (f : Counts) (at : ℕ) where
  module _ (e n m p₀ : ℕ) (a : opening_of s ≡ Ok (opening e n m, p₀)) where
    module _ (u : List ℕ) (p₁ : ℕ) (b : tasks_from s n 0 p₀ t ≡ tasks_read (Ok p₁) u) where
      by_links : (cy : Cycle) (k p₂ : ℕ) → middle_from s p₁ (tasks_of n u) ≡ Ok (cy, k, p₂) → (o : Linked) (w : PatternTables) → patterns_after s p₂ (counts_are e m n k cy) u v ≡ patterns_read o w
          → (on_patterns o u w (counts_are e m n k cy)).outcome ≡ Ok (f, at) → HeadWent s t v f at
      unfolding on_patterns head_from on_opening on_tasks on_middle
      by_links cy k p₂ c (Ok (p, l)) w d g =
          let x = took (leb l most_links) _ _ _ g err_ok in
          let y : p ≡ at = ok_second x.1 in
          let z : counts_are e m n k cy ≡ f = ok_first x.1 in
          record {
            e = e;
            n = n;
            m = m;
            p₀ = p₀;
            p₁ = p₁;
            p₂ = p₂;
            cy = cy;
            k = k;
            l = l;
            tasks = u;
            patterns = w;
            opened = a;
            tasked = b;
            between = c;
            patterned = rw y at d;
            few = x.0;
            shape = z;
            is = rw (a, b, c, d, x.0, x.1);
          }
      by_links cy k p₂ c (Err r) w d g = absurd (err_ok g)

      by_middle : (o : Middle) → middle_from s p₁ (tasks_of n u) ≡ o
          → (on_middle o u v (λ cy k p₂. let w : PatternsRead = patterns_after s p₂ (counts_are e m n k cy) u v in on_patterns w.outcome u w.tables (counts_are e m n k cy))).outcome ≡ Ok (f, at) → HeadWent s t v f at
      unfolding on_middle
      by_middle (Ok (cy, k, p₂)) c g =
          let w : PatternsRead = patterns_after s p₂ (counts_are e m n k cy) u v in
          by_links cy k p₂ c w.outcome w.tables refl g
      by_middle (Err r) c g = absurd (err_ok g)

    by_tasks : (o : Outcome) (u : List ℕ) → tasks_from s n 0 p₀ t ≡ tasks_read o u
        → (on_tasks o u v (λ p₁. on_middle (middle_from s p₁ (tasks_of n u)) u v λ cy k p₂. let w : PatternsRead = patterns_after s p₂ (counts_are e m n k cy) u v in on_patterns w.outcome u w.tables (counts_are e m n k cy))).outcome ≡ Ok (f, at) → HeadWent s t v f at
    unfolding on_tasks
    by_tasks (Ok p₁) u b g = by_middle u p₁ b (middle_from s p₁ (tasks_of n u)) refl g
    by_tasks (Err r) u b g = absurd (err_ok g)

  pub head_went : (head_from s t v).outcome ≡ Ok (f, at) → HeadWent s t v f at
  unfolding head_from on_opening
  head_went g = by (opening_of s) refl g
    where
      by : (o : OpeningRead) → opening_of s ≡ o
          → (on_opening o t v (λ e n m p₀. let r : TasksRead = tasks_from s n 0 p₀ t in on_tasks r.outcome r.table v λ p₁. on_middle (middle_from s p₁ (tasks_of n r.table)) r.table v λ cy k p₂. let w : PatternsRead = patterns_after s p₂ (counts_are e m n k cy) r.table v in on_patterns w.outcome r.table w.tables (counts_are e m n k cy))).outcome ≡ Ok (f, at) → HeadWent s t v f at
      by (Ok (o, p₀)) a g = let r : TasksRead = tasks_from s o.tasks 0 p₀ t in by_tasks o.edition o.tasks o.processors p₀ a r.outcome r.table refl g
      by (Err r) a g = absurd (err_ok g)
