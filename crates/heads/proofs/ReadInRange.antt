-- What was let through keeps its rules.
use mathlib.Core.Bool.{Bool, true, false}
use mathlib.Core.Path.{◌≡◌, refl, sym, ap, ◌∙◌, subst}
use mathlib.Core.List.{List}
use Prim.Native.Nat.{ℕ, ◌+◌, ◌<◌, ◌≤◌}
use lib.Dec.{leb, eqb}
use Rattle.std.specs.Prelude.{Result, Ok, Err}
use Rattle.vocabulary.proofs.Test.{took, missed, both}
use Rattle.kinds.specs.declared.Key.{Key}
use Rattle.kinds.specs.Limits.{Range, range, holds, task_counts, processor_counts, periods, runnings, offsets, deadlines, pattern_counts, most_pairs, first_range, second_range, rises}
use Rattle.kinds.specs.Editions.{editions}
use Rattle.kinds.specs.declared.Task.{Task}
use Rattle.kinds.specs.declared.Pattern.{Pattern}
use Rattle.kinds.specs.Tasks.{Tasks, task_of}
use Rattle.kinds.specs.declared.Cycle.{Cycle}
use Rattle.kinds.specs.Cycle.{cycle, jobs, cycle_is, cycle_fits}
use Rattle.kinds.specs.Sound.{attributes_fit, heading_fits, opening_fits}
use Rattle.kinds.specs.RangeLaws.{holds_at}
use Rattle.numbers.specs.declared.Refusal.{Refusal}
use Rattle.numbers.specs.declared.Refusal.TheVariants as refusal
use Rattle.numbers.specs.declared.NumberFault.TheVariants as numberFault
use Rattle.numbers.specs.Numbers.{Number, Got, number_at, held, got_at, and_then}
use Rattle.numbers.specs.Results.{err_ok, ok_first, ok3_first, ok3_second}
use Rattle.heads.specs.Tables.{Two, pattern, times_from, task_from, in_order, two_at, count_from, heading_at}
use Rattle.heads.specs.declared.Opening.{Opening}
use Rattle.heads.specs.Heads.{opening, opening_of, middle_from}

-- a test of equal numbers answers alike
same₂ : (f : ℕ → ℕ → Bool) {a b x y : ℕ} {v : Bool} → a ≡ x → b ≡ y → f a b ≡ v → f x y ≡ v
same₂ f p q h = rw (← p, ← q) h

same₃ : (f : ℕ → ℕ → ℕ → Bool) {a b c x y z : ℕ} {v : Bool} → a ≡ x → b ≡ y → c ≡ z → f a b c ≡ v → f x y z ≡ v
same₃ f p q r h = rw (← p, ← q, ← r) h

-- ---- one number
held_through : (x : Number) (len at : ℕ) (r : Range) (fault : Refusal) (v next : ℕ) → held x len at r fault ≡ Ok (v, next) → holds r v ≡ true
unfolding held
held_through (Err numberFault.Ends) len at r fault v next e = absurd (err_ok e)
held_through (Err numberFault.Malformed) len at r fault v next e = absurd (err_ok e)
held_through (Ok (w, n)) len at r fault v next e =
    let p = took (holds r w) _ _ _ e err_ok in
    let k : w ≡ v = ok_first p.1 in
    rw k at p.0

pub let_through : (s : List ℕ) (at : ℕ) (r : Range) (fault : Refusal) (v next : ℕ) → got_at s at r fault ≡ Ok (v, next) → holds r v ≡ true
unfolding got_at
let_through s at r fault v next e = held_through (number_at s at) _ at r fault v next e

pub got_bounds : (s : List ℕ) (at l u : ℕ) (fault : Refusal) (v next : ℕ) {r : Got} → r ≡ got_at s at (range l u) fault → r ≡ Ok (v, next) → (l ≤ v) × (v < u)
got_bounds s at l u fault v next p q = holds_at l u v (let_through s at (range l u) fault v next (sym p ∙ q))

-- ---- one number after another: where no refusal came out, each was read
module _ {A : Type 0} where
  pub record Went (g : Got) (k : ℕ → ℕ → Result A Refusal) (z : A) : Type 0 where
    pub value : ℕ
    pub next : ℕ
    pub is : g ≡ Ok (value, next)
    pub on : k value next ≡ Ok z

  pub went : (g : Got) (k : ℕ → ℕ → Result A Refusal) (z : A) → and_then g k ≡ Ok z → Went g k z
  unfolding and_then
  went (Ok (v, n)) k z e = record { value = v; next = n; is = refl; on = e }
  went (Err r) k z e = absurd (err_ok e)

-- ---- a task
pub task_fits_lem : (s : List ℕ) (p : ℕ) (t : Task) (q : ℕ) → task_from s p ≡ Ok (t, q) → attributes_fit t ≡ true
unfolding task_from times_from attributes_fit
task_fits_lem s p t q e =
    let i = went (got_at s p periods (refusal.OutOfLimits p)) _ (t, q) e in
    let j = went (got_at s i.next (runnings i.value) (refusal.OutOfLimits i.next)) _ (t, q) i.on in
    let k = went (got_at s j.next (offsets i.value) (refusal.OutOfLimits j.next)) _ (t, q) j.on in
    let l = went (got_at s k.next (deadlines i.value j.value) (refusal.OutOfLimits k.next)) _ (t, q) k.on in
    let u : Task = task_of i.value j.value k.value l.value in
    let z : u ≡ t = ok_first l.on in
    let f : attributes_fit u ≡ true = rw (let_through _ _ _ _ _ _ i.is, let_through _ _ _ _ _ _ j.is, let_through _ _ _ _ _ _ k.is) (let_through _ _ _ _ _ _ l.is) in
    subst (λ (y : Task). attributes_fit y ≡ true) z f

-- ---- two numbers in order
module _ {A : Type 0} where
  -- where no refusal came out, the two were read, in order
  record InOrder (low : Key) (la lb : ℕ) (k : ℕ → ℕ → ℕ → ℕ → Result A Refusal) (z : A) : Type 0 where
    first : ℕ
    second : ℕ
    at : ℕ
    next : ℕ
    rising : rises low la lb first second ≡ true
    on : k first second at next ≡ Ok z

  in_order_lem : (s : List ℕ) (p : ℕ) (low : Key) (la lb : ℕ) (k : ℕ → ℕ → ℕ → ℕ → Result A Refusal) (z : A) → in_order s p low la lb k ≡ Ok z
      → InOrder low la lb k z
  unfolding rises
  in_order_lem s p low la lb k z e =
      let i = went (got_at s p (first_range low la) (refusal.Disordered p)) _ z e in
      let j = went (got_at s i.next (second_range low i.value lb) (refusal.Disordered i.next)) _ z i.on in
      record {
        first = i.value;
        second = j.value;
        at = i.next;
        next = j.next;
        rising = rw (let_through _ _ _ _ _ _ i.is) (let_through _ _ _ _ _ _ j.is);
        on = j.on;
      }

pub two_fits : (s : List ℕ) (p : ℕ) (low : Key) (la lb x y q : ℕ) → two_at s p low la lb ≡ Ok (x, y, q) → rises low la lb x y ≡ true
unfolding two_at
two_fits s p low la lb x y q e =
    let w = in_order_lem s p low la lb _ (x, y, q) e in
    same₂ (rises low la lb) (ok3_first w.on) (ok3_second w.on) w.rising

pub two_bounds : (s : List ℕ) (p : ℕ) (low : Key) (la lb x y q : ℕ) {r : Two} → r ≡ two_at s p low la lb → r ≡ Ok (x, y, q) → (x < la) × (y < lb)
unfolding rises
two_bounds s p low la lb x y q h e =
    let w = both {a = holds (first_range low la) x} (two_fits s p low la lb x y q (sym h ∙ e)) in
    ((holds_at _ la x w.0).1, (holds_at _ lb y w.1).1)

-- ---- a pattern's heading
some : (l u v : ℕ) → holds (range l u) v ≡ true → leb l v ≡ true
unfolding holds
some l u v e = (both {a = leb l v} e).0

-- the numbers of a heading, each by the test that let it through
fits_by : (n : ℕ) (low : Key) (x y c used : ℕ) → rises low n n x y ≡ true → eqb x y ≡ false → leb 1 c ≡ true → leb (used + c) most_pairs ≡ true
    → heading_fits n low x y c used ≡ true
unfolding heading_fits
fits_by n low x y c used f g h i = rw (f, g, h) i

pub heading_fits_lem : (s : List ℕ) (at : ℕ) (low : Key) (n used x y c q : ℕ) → heading_at s at low n used ≡ Ok (pattern x y c, q) → heading_fits n low x y c used ≡ true
unfolding heading_at count_from
heading_fits_lem s at low n used x y c q e =
    let i = in_order_lem s at low n n _ (pattern x y c, q) e in
    let b = missed (eqb i.first i.second) _ _ _ i.on err_ok in
    let k = went (got_at s i.next (range 1 2097152) (refusal.Disordered i.next)) _ (pattern x y c, q) b.1 in
    let t = took (leb (used + k.value) most_pairs) _ _ _ k.on err_ok in
    let same : pattern i.first i.second k.value ≡ pattern x y c = ok_first t.1 in
    let ex : i.first ≡ x = ap (λ (g : Pattern). g.from) same in
    let ey : i.second ≡ y = ap (λ (g : Pattern). g.to) same in
    let ec : k.value ≡ c = ap (λ (g : Pattern). g.pairs) same in
    same₃ (λ a b d. heading_fits n low a b d used) ex ey ec
    (fits_by n low i.first i.second k.value used i.rising b.0 (some 1 2097152 k.value (let_through _ _ _ _ _ _ k.is)) t.0)

-- ---- the numbers before the tasks, and between tasks and patterns
pub opening_fits_lem : (s : List ℕ) (e n m q : ℕ) → opening_of s ≡ Ok (opening e n m, q) → opening_fits e n m ≡ true
unfolding opening_of opening_fits
opening_fits_lem s e n m q w =
    let i = went (got_at s 0 editions refusal.UnknownEdition) _ (opening e n m, q) w in
    let j = went (got_at s i.next task_counts (refusal.OutOfLimits i.next)) _ (opening e n m, q) i.on in
    let k = went (got_at s j.next processor_counts (refusal.OutOfLimits j.next)) _ (opening e n m, q) j.on in
    let same : opening i.value j.value k.value ≡ opening e n m = ok_first k.on in
    let xe : i.value ≡ e = ap (λ (o : Opening). o.edition) same in
    let xn : j.value ≡ n = ap (λ (o : Opening). o.tasks) same in
    let xm : k.value ≡ m = ap (λ (o : Opening). o.processors) same in
    let f : opening_fits i.value j.value k.value ≡ true = rw (let_through _ _ _ _ _ _ i.is, let_through _ _ _ _ _ _ j.is) (let_through _ _ _ _ _ _ k.is) in
    same₃ opening_fits xe xn xm f

pub record MiddleFits (t : Tasks) (c : Cycle) (k : ℕ) : Type 0 where
  pub cycle_fits_lem : cycle_fits t ≡ true
  pub ticks : c.ticks ≡ cycle t
  pub jobs : c.jobs ≡ jobs t
  pub few : holds pattern_counts k ≡ true

pub middle_fits : (s : List ℕ) (at : ℕ) (t : Tasks) (c : Cycle) (k q : ℕ) → middle_from s at t ≡ Ok (c, k, q) → MiddleFits t c k
unfolding middle_from
middle_fits s at t c k q e =
    let b = took (cycle_fits t) _ _ _ e err_ok in
    let i = went (got_at s at pattern_counts (refusal.OutOfLimits at)) _ (c, k, q) b.1 in
    let xc : cycle_is t ≡ c = ok3_first i.on in
    let xk : i.value ≡ k = ok3_second i.on in
    record { cycle_fits_lem = b.0; ticks = sym (ap (λ (x : Cycle). x.ticks) xc); jobs = sym (ap (λ (x : Cycle). x.jobs) xc); few = rw xk at (let_through _ _ _ _ _ _ i.is) }
