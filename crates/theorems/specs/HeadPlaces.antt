-- How far a head reaches, number by number, and that no byte behind it counts.
use Rattle.std.specs.Prelude.{◌≡◌, List, ℕ, zero, suc, ◌+◌, ◌*◌, ◌-◌, ◌≤◌, leb, eqb, length, Result, Ok, Err}
use Rattle.std.proofs.Math.Path.{refl}
use Rattle.std.proofs.Common.{sym, ap, ◌∙◌, arith}
use borrow.Author.Tests.{leb-true}
use Rattle.vocabulary.specs.Test.{pick}
use Rattle.vocabulary.proofs.Test.{took, missed}
use Rattle.kinds.specs.declared.Key.{Key}
use Rattle.kinds.specs.declared.Task.{Task}
use Rattle.kinds.specs.declared.Cycle.{Cycle}
use Rattle.kinds.specs.declared.Counts.{Counts}
use Rattle.kinds.specs.Limits.{Range, range, task_counts, processor_counts, pattern_counts, periods, runnings, offsets, deadlines, most_pairs}
use Rattle.kinds.specs.Editions.{editions}
use Rattle.kinds.specs.Limits.{no_key, after, first_range, second_range}
use Rattle.kinds.specs.Tasks.{Tasks, task_of, tasks_of, put_task, put_pair}
use Rattle.kinds.specs.Cycle.{cycle_fits, cycle_is}
use Rattle.kinds.specs.Links.{links_in}
use Rattle.kinds.specs.RangeLaws.{spans_low}
use Rattle.numbers.specs.declared.Refusal.{Refusal}
use Rattle.numbers.specs.declared.Refusal.TheVariants as refusal
use Rattle.numbers.specs.Numbers.{got_at, and_then}
use Rattle.heads.specs.declared.Progress.{Progress}
use Rattle.heads.specs.Tables.{TaskRead, Two, Heading, pattern}
use Rattle.heads.specs.Tables.{times_from, task_from, TasksRead, on_task, tasks_from, two_at, PairsRead, on_two, pairs_from, count_from, heading_at}
use Rattle.heads.specs.Tables.{PatternTables, with_pattern, progress, PatternsRead, on_heading, on_pairs, pattern_from, on_pattern, patterns_from}
use Rattle.heads.specs.Heads.{OpeningRead, opening, opening_of, middle_from, on_opening, on_tasks, on_middle, on_patterns, head_from}
use Rattle.numbers.specs.Results.{err_ok, same_ok, ok_first, ok_second, ok3_third}
use Rattle.heads.proofs.ReadInRange.{went}
use Rattle.heads.proofs.ReadSteps.{tasks_went, pairs_went, patterns_went, patterns_rest, HeadWent, head_went}
use Rattle.heads.proofs.Bounds.{heading_bounds, opening_low, middle_low}
use Rattle.theorems.specs.NumberPlaces.{SameTo, same_less, GotRead, got_read}

-- what P reads from place `at` on ends at `next`, at most so many bytes further, and is the same for every file with the same bytes so far
pub record ReadTo {A : Type 0} (s : List ℕ) (at next most : ℕ) (P : List ℕ → A) : Type 0 where
  pub rises : at ≤ next
  pub within : at ≤ length s → next ≤ length s
  pub ends : next ≤ at + most
  pub again : (t : List ℕ) → SameTo s t next → P t ≡ P s

-- reading goes on after one number of at most w bytes; K is what is read behind it
module _ {A : Type 0} (s : List ℕ) (at : ℕ) (r : Range) (fault : Refusal) (K : List ℕ → ℕ → ℕ → Result A Refusal) (z : A) (q w m : ℕ) where
  then_at : (v p : ℕ) → got_at s at r fault ≡ Ok (v, p) → p ≤ at + w → ReadTo s p q m (λ t. K t v p)
      → ReadTo s at q (w + m) (λ t. and_then (got_at t at r fault) (K t))
  unfolding and_then
  then_at v p is l b =
      let a = got_read s at r fault v p is in
      record {
        rises = omega (arith, a.read.rises, b.rises);
        within = λ l. b.within a.read.within;
        ends = omega (arith, b.ends);
        again = λ t h. rw (a.again t (same_less s t p q b.rises h), is) (b.again t h);
      }

  then_place : ((v p : ℕ) → GotRead s at r fault v p → K s v p ≡ Ok z → (p ≤ at + w) × ReadTo s p q m (λ t. K t v p))
      → and_then (got_at s at r fault) (K s) ≡ Ok z → ReadTo s at q (w + m) (λ t. and_then (got_at t at r fault) (K t))
  then_place rest e =
      let i = went (got_at s at r fault) (K s) z e in
      let b = rest i.value i.next (got_read s at r fault i.value i.next i.is) i.on in
      then_at i.value i.next i.is b.0 b.1

-- and ends
end_place : {A : Type 0} (s : List ℕ) (p q : ℕ) (z : A) → p ≡ q → ReadTo s p q 0 (λ t. z)
end_place s p q z e = record { rises = omega arith; within = λ l. omega arith; ends = omega arith; again = λ t h. refl }

-- ---- the numbers before the tasks
abbrev opening₂ : ℕ → ℕ → List ℕ → ℕ → OpeningRead
opening₂ e n s p = and_then (got_at s p processor_counts (refusal.OutOfLimits p)) λ m p₃. Ok (opening e n m, p₃)

abbrev opening₁ : ℕ → List ℕ → ℕ → OpeningRead
opening₁ e s p = and_then (got_at s p task_counts (refusal.OutOfLimits p)) λ n p₂. opening₂ e n s p₂

module _ (s : List ℕ) (e n m q : ℕ) where
  last₂ : (a b p : ℕ) → opening₂ a b s p ≡ Ok (opening e n m, q) → ReadTo s p q 1 (λ t. opening₂ a b t p)
  last₂ a b p =
      then_place s p processor_counts (refusal.OutOfLimits p) (λ t d p₃. Ok (opening a b d, p₃)) (opening e n m, q) q 1 0
      (λ v p₃ g w. (g.read.one (omega (arith, g.in_range.1)), end_place s p₃ q _ (ok_second w)))

  last₁ : (a p : ℕ) → opening₁ a s p ≡ Ok (opening e n m, q) → ReadTo s p q 2 (λ t. opening₁ a t p)
  last₁ a p =
      then_place s p task_counts (refusal.OutOfLimits p) (λ t b. opening₂ a b t) (opening e n m, q) q 1 1
      (λ v p₂ g w. (g.read.one (omega (arith, g.in_range.1)), last₂ a v p₂ w))

  opening_place : opening_of s ≡ Ok (opening e n m, q) → ReadTo s 0 q 3 opening_of
  unfolding opening_of
  opening_place =
      then_place s 0 editions refusal.UnknownEdition (λ t a. opening₁ a t) (opening e n m, q) q 1 2
      (λ v p₁ g w. (g.read.one (omega (arith, g.in_range.1)), last₁ v p₁ w))

-- ---- a task
abbrev task₃ : ℕ → ℕ → ℕ → List ℕ → ℕ → TaskRead
task₃ t c o s p = and_then (got_at s p (deadlines t c) (refusal.OutOfLimits p)) λ d p₄. Ok (task_of t c o d, p₄)

abbrev task₂ : ℕ → ℕ → List ℕ → ℕ → TaskRead
task₂ t c s p = and_then (got_at s p (offsets t) (refusal.OutOfLimits p)) λ o p₃. task₃ t c o s p₃

abbrev task₁ : ℕ → List ℕ → ℕ → TaskRead
task₁ t s p = and_then (got_at s p (runnings t) (refusal.OutOfLimits p)) λ c p₂. task₂ t c s p₂

module _ (s : List ℕ) (u : Task) (q : ℕ) where
  with₃ : (t c o p : ℕ) → t ≤ 6000 → task₃ t c o s p ≡ Ok (u, q) → ReadTo s p q 2 (λ x. task₃ t c o x p)
  with₃ t c o p l =
      then_place s p (deadlines t c) (refusal.OutOfLimits p) (λ x d p₄. Ok (task_of t c o d, p₄)) (u, q) q 2 0
      (λ v p₄ g w. (g.read.two (omega (arith, g.in_range.1)), end_place s p₄ q _ (ok_second w)))

  with₂ : (t c p : ℕ) → t ≤ 6000 → task₂ t c s p ≡ Ok (u, q) → ReadTo s p q 4 (λ x. task₂ t c x p)
  with₂ t c p l =
      then_place s p (offsets t) (refusal.OutOfLimits p) (λ x o. task₃ t c o x) (u, q) q 2 2
      (λ v p₃ g w. (g.read.two (omega (arith, g.in_range.1)), with₃ t c v p₃ l w))

  with₁ : (t p : ℕ) → t ≤ 6000 → task₁ t s p ≡ Ok (u, q) → ReadTo s p q 6 (λ x. task₁ t x p)
  with₁ t p l =
      then_place s p (runnings t) (refusal.OutOfLimits p) (λ x c. task₂ t c x) (u, q) q 2 4
      (λ v p₂ g w. (g.read.two (omega (arith, g.in_range.1)), with₂ t v p₂ l w))

  task_place : (p : ℕ) → task_from s p ≡ Ok (u, q) → ReadTo s p q 8 (λ x. task_from x p)
  unfolding task_from times_from
  task_place p =
      then_place s p periods (refusal.OutOfLimits p) (λ x t. task₁ t x) (u, q) q 2 6
      (λ v p₁ g w. (g.read.two (omega (arith, g.in_range.1)), with₁ v p₁ (omega (arith, g.in_range.1)) w))

tasks_place : (s : List ℕ) (k i at : ℕ) (u : List ℕ) (q : ℕ) → (tasks_from s k i at u).outcome ≡ Ok q
    → ReadTo s at q (8 * k) (λ t. tasks_from t k i at u)
unfolding tasks_from on_task
tasks_place s zero i at u q e = end_place s at q _ (same_ok e)
tasks_place s (suc k) i at u q e =
    let w = tasks_went s k i at u q e in
    let v : List ℕ = put_task u i w.task in
    let a = task_place s w.task w.next at w.is in
    let b = tasks_place s k (i + 1) w.next v q (ap (λ (x : TasksRead). x.outcome) (sym w.rest) ∙ e) in
    record {
      rises = omega (arith, a.rises, b.rises);
      within = λ x. b.within (a.within x);
      ends = omega (arith, a.ends, b.ends);
      again = λ t h. rw (a.again t (same_less s t w.next q b.rises h), w.is) (b.again t h);
    }

-- ---- two numbers, each below 16,384
abbrev two₁ : Key → ℕ → ℕ → List ℕ → ℕ → Two
two₁ low lb x s p = and_then (got_at s p (second_range low x lb) (refusal.Disordered p)) λ y p₂. Ok (x, y, p₂)

module _ (s : List ℕ) (low : Key) (la lb x y q : ℕ) (fa : la ≤ 16384) (fb : lb ≤ 16384) where
  and₁ : (a p : ℕ) → two₁ low lb a s p ≡ Ok (x, y, q) → ReadTo s p q 2 (λ t. two₁ low lb a t p)
  and₁ a p =
      then_place s p (second_range low a lb) (refusal.Disordered p) (λ t b p₂. Ok (a, b, p₂)) (x, y, q) q 2 0
      (λ v p₂ g w. (g.read.two (omega (arith, g.in_range.1)), end_place s p₂ q _ (ok3_third w)))

  two_place : (p : ℕ) → two_at s p low la lb ≡ Ok (x, y, q) → ReadTo s p q 4 (λ t. two_at t p low la lb)
  unfolding two_at
  two_place p =
      then_place s p (first_range low la) (refusal.Disordered p) (λ t a. two₁ low lb a t) (x, y, q) q 2 2
      (λ v p₁ g w. (g.read.two (omega (arith, g.in_range.1)), and₁ v p₁ w))

-- ---- pairs
pairs_place : (s : List ℕ) (la lb : ℕ) → la ≤ 6000 → lb ≤ 12000 → (k at : ℕ) (low : Key) (j : ℕ) (u : List ℕ) (q : ℕ)
    → (pairs_from s k at low la lb j u).outcome ≡ Ok q → ReadTo s at q (4 * k) (λ t. pairs_from t k at low la lb j u)
unfolding pairs_from on_two
pairs_place s la lb ha hb zero at low j u q e = end_place s at q _ (same_ok e)
pairs_place s la lb ha hb (suc k) at low j u q e =
    let w = pairs_went s k at low la lb j u q e in
    let v : List ℕ = put_pair u j w.x w.y in
    let a = two_place s low la lb w.x w.y w.next (omega arith) (omega arith) at w.is in
    let b = pairs_place s la lb ha hb k w.next (after w.x w.y) (j + 1) v q (ap (λ (x : PairsRead). x.outcome) (sym w.rest) ∙ e) in
    record {
      rises = omega (arith, a.rises, b.rises);
      within = λ x. b.within (a.within x);
      ends = omega (arith, a.ends, b.ends);
      again = λ t h. rw (a.again t (same_less s t w.next q b.rises h), w.is) (b.again t h);
    }

-- ---- a pattern's heading, of tasks below 128
abbrev heading₁ : Key → ℕ → ℕ → ℕ → List ℕ → ℕ → Heading
heading₁ low n used x s p =
    and_then (got_at s p (second_range low x n) (refusal.Disordered p)) λ y p₂.
    pick (eqb x y) (Err (refusal.Disordered p)) (count_from s p₂ x y used)

module _ (s : List ℕ) (at : ℕ) (low : Key) (n used x y c q : ℕ) (l : n ≤ 64) where
  count_place : (a b p : ℕ) → count_from s p a b used ≡ Ok (pattern x y c, q) → ReadTo s p q 2 (λ t. count_from t p a b used)
  unfolding count_from
  count_place a b p =
      then_place s p (range 1 2097152) (refusal.Disordered p)
      (λ t d r. pick (leb (used + d) most_pairs) (Ok (pattern a b d, r)) (Err (refusal.OutOfLimits p))) (pattern x y c, q) q 2 0 (λ v r g w.
      let z = took (leb (used + v) most_pairs) _ _ _ w err_ok in
      (g.read.two (omega (arith, leb-true (used + v) 1024 z.0)), end_place s r q _ (ok_second z.1)))

  to₁ : (a p : ℕ) → heading₁ low n used a s p ≡ Ok (pattern x y c, q) → ReadTo s p q 3 (λ t. heading₁ low n used a t p)
  to₁ a p =
      then_place s p (second_range low a n) (refusal.Disordered p)
      (λ t b r. pick (eqb a b) (Err (refusal.Disordered p)) (count_from t r a b used)) (pattern x y c, q) q 1 2
      (λ v r g w.
      let z = missed (eqb a v) _ _ _ w err_ok in
      (g.read.one (omega (arith, g.in_range.1)), rw z.0 (count_place a v r z.1)))

  heading_place : heading_at s at low n used ≡ Ok (pattern x y c, q) → ReadTo s at q 4 (λ t. heading_at t at low n used)
  unfolding heading_at
  heading_place =
      then_place s at (first_range low n) (refusal.Disordered at) (λ t a. heading₁ low n used a t) (pattern x y c, q) q 1 3
      (λ v p₁ g w. (g.read.one (omega (arith, g.in_range.1)), to₁ v p₁ w))

-- ---- patterns, with all their pairs
patterns_place : (s : List ℕ) (e : ℕ) (t : Tasks) (h : ℕ) → t.count ≤ 64 → (k i : ℕ) (done : Progress) (u : PatternTables) (q l : ℕ)
    → done.used ≤ 1024 → (patterns_from s e t h k i done u).outcome ≡ Ok (q, l)
    → ReadTo s done.at q (4 * k + 4 * (1024 - done.used)) (λ x. patterns_from x e t h k i done u)
unfolding patterns_from pattern_from on_pattern on_heading on_pairs
patterns_place s e t h few zero i done u q l few-pairs g =
    let z : done.at ≡ q = ok_first g in
    record { rises = omega arith; within = λ x. omega arith; ends = omega arith; again = λ x m. refl }
patterns_place s e t h few (suc k) i done u q l few-pairs g =
    let w = patterns_went s e t h i done u k q l g in
    let v : PatternTables = with_pattern u i w.x w.y w.c w.v in
    let next : Progress = progress w.q (after w.x w.y) (done.used + w.c) (done.links + links_in w.c h w.spans.whole) in
    let f = heading_bounds s done.at done.low t.count done.used w.x w.y w.c w.p refl w.is in
    let far = spans_low e _ _ w.spans_are in
    let a = heading_place s done.at done.low t.count done.used w.x w.y w.c w.p few w.is in
    let b = pairs_place s w.spans.first w.spans.second far.0 far.1 w.c w.p no_key done.used u.pairs w.q
    (ap (λ (x : PairsRead). x.outcome) w.pairs) in
    let d = patterns_place s e t h few k (i + 1) next v q l (omega (arith, f.room))
    (ap (λ (x : PatternsRead). x.outcome) (sym (patterns_rest s e t h i done u k w)) ∙ g) in
    record {
      rises = omega (arith, a.rises, b.rises, d.rises);
      within = λ x. d.within (b.within (a.within x));
      ends = omega (arith, a.ends, b.ends, d.ends, f.room);
      again = λ x m.
          rw (
            a.again x (same_less s x w.p q (omega (arith, b.rises, d.rises)) m),
            w.is,
            ← w.spans_are,
            b.again x (same_less s x w.q q d.rises m),
            w.pairs,
          )
          (d.again x m);
    }

-- ---- between tasks and patterns
middle_place : (s : List ℕ) (at : ℕ) (t : Tasks) (c : Cycle) (k q : ℕ) → middle_from s at t ≡ Ok (c, k, q) → ReadTo s at q 1 (λ x. middle_from x at t)
unfolding middle_from
middle_place s at t c k q e =
    let b = took (cycle_fits t) _ _ _ e err_ok in
    let a = then_place s at pattern_counts (refusal.OutOfLimits at) (λ x d p. Ok (cycle_is t, d, p)) (c, k, q) q 1 0
    (λ v p g w. (g.read.one (omega (arith, g.in_range.1)), end_place s p q _ (ok3_third w))) b.1 in
    record { rises = a.rises; within = a.within; ends = a.ends; again = λ x m. rw b.0 (a.again x m) }

-- ---- the head
module _ (s ts : List ℕ) (v : PatternTables) (f : Counts) (at : ℕ) where
  head_by : HeadWent s ts v f at → ReadTo s 0 at 4868 (λ x. head_from x ts v)
  unfolding head_from on_opening on_tasks on_middle on_patterns
  head_by w =
      let few = opening_low s w.e w.n w.m w.p₀ refl w.opened in
      let low = middle_low s w.p₁ (tasks_of w.n w.tasks) w.cy w.k w.p₂ refl w.between in
      let a = opening_place s w.e w.n w.m w.p₀ w.opened in
      let b = tasks_place s w.n 0 w.p₀ ts w.p₁ (ap (λ (x : TasksRead). x.outcome) w.tasked) in
      let c = middle_place s w.p₁ (tasks_of w.n w.tasks) w.cy w.k w.p₂ w.between in
      let d = patterns_place s w.e (tasks_of w.n w.tasks) w.cy.ticks few w.k 0 (progress w.p₂ no_key 0 0) v at w.l (omega arith)
      (ap (λ (x : PatternsRead). x.outcome) w.patterned) in
      record {
        rises = omega arith;
        within = λ x. d.within (c.within (b.within (a.within x)));
        ends = omega (arith, a.ends, b.ends, c.ends, d.ends, low.0);
        again = λ x m.
            rw (
              a.again x (same_less s x w.p₀ at (omega (arith, b.rises, c.rises, d.rises)) m),
              w.opened,
              b.again x (same_less s x w.p₁ at (omega (arith, c.rises, d.rises)) m),
              w.tasked,
              c.again x (same_less s x w.p₂ at d.rises m),
              w.between,
              d.again x m,
            );
      }

  -- ==== A head reaches at most 4,868 bytes, and every file with the same bytes up to there has the same head.
  pub head_place : (head_from s ts v).outcome ≡ Ok (f, at) → ReadTo s 0 at 4868 (λ x. head_from x ts v)
  head_place e = head_by (head_went s ts v f at e)
