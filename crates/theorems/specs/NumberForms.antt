-- Where the numbers of a head are read from bytes, their bytes stand there.
use Rattle.std.specs.Prelude.{◌≡◌, List, [], ◌∷◌, ◌++◌, leb, eqb, length, Result, Ok, Err}
use Rattle.std.proofs.Math.Path.{refl, ap₂}
use Rattle.std.proofs.Common.{ap, length-append}
use Prim.Native.Nat.{ℕ, suc, ◌+◌, ◌≤◌}
use native.Mathlib.Omega.{arith}
use Rattle.vocabulary.proofs.Test.{took, missed}
use Rattle.vocabulary.specs.Table.{join}
use Rattle.vocabulary.specs.Parts.{PartAt}
use Rattle.vocabulary.proofs.Parts.{part_none, part_move, part_both}
use Rattle.kinds.specs.declared.Key.{Key}
use Rattle.kinds.specs.declared.Task.{Task}
use Rattle.kinds.specs.declared.Pattern.{Pattern}
use Rattle.kinds.specs.declared.Cycle.{Cycle}
use Rattle.kinds.specs.Limits.{Range, range, holds, task_counts, processor_counts, pattern_counts, periods, runnings, offsets, deadlines, most_pairs}
use Rattle.kinds.specs.Editions.{editions}
use Rattle.kinds.specs.Limits.{first_range, second_range}
use Rattle.kinds.specs.Tasks.{Tasks}
use Rattle.kinds.specs.Cycle.{cycle_fits}
use Rattle.numbers.specs.declared.Refusal.{Refusal}
use Rattle.numbers.specs.declared.Refusal.TheVariants as refusal
use Rattle.numbers.specs.declared.NumberFault.TheVariants as numberFault
use Rattle.numbers.specs.Numbers.{Number, number_at, number_bytes, held, got_at, and_then}
use Rattle.numbers.specs.Forms.{Bytes, FormAt, read_form}
use Rattle.heads.specs.declared.Opening.{Opening}
use Rattle.heads.specs.Tables.{pattern, times_from, task_from, two_at, count_from, heading_at}
use Rattle.heads.specs.Heads.{opening, opening_of, middle_from}
use Rattle.numbers.specs.Results.{err_ok, ok_first, ok_second, ok3_first, ok3_second, ok3_third}
use Rattle.heads.proofs.ReadInRange.{went}
use Rattle.writer.specs.Format.{numbers_of, bytes_in}
use Rattle.writer.specs.FormatLaws.{bytes_more, bytes_one}

-- ---- xs stands in s from place `at` on, and ends before place `next`
pub record Fills (s : List ℕ) (at : ℕ) (xs : List ℕ) (next : ℕ) : Type 0 where
  pub part : PartAt s at xs
  pub ends : next ≡ at + length xs

pub fills_within : {s xs : List ℕ} {at next : ℕ} → Fills s at xs next → next ≤ length s
fills_within f = omega (arith, f.part.within, f.ends)

pub fills_both : {s xs ys : List ℕ} {at p q : ℕ} → Fills s at xs p → Fills s p ys q → Fills s at (xs ++ ys) q
fills_both {s} {xs} {ys} {at} {p} f g =
    record {
      part = part_both s at xs ys f.part (part_move s p (at + length xs) ys f.ends g.part);
      ends = omega (arith, f.ends, g.ends, length-append xs ys);
    }

-- a join grows by one part after another
module _ (s : List ℕ) (at : ℕ) (f : ℕ → List ℕ) where
  pub join_from : at ≤ length s → Fills s at (join f 0) at
  unfolding join
  join_from l = record { part = part_none s at l; ends = omega arith }

  pub join_on : (k : ℕ) {p q : ℕ} → Fills s at (join f k) p → Fills s p (f k) q → Fills s at (join f (k + 1)) q
  unfolding join
  join_on k a b = let z : k + 1 ≡ suc k = omega arith in rw z (fills_both a b)

-- ---- numbers, one after another
form_fills : {s : List ℕ} {at v next : ℕ} → FormAt s at v next → Fills s at (number_bytes v) next
form_fills f = record { part = f.bytes; ends = f.ends }

record NumbersAt (s : List ℕ) (at : ℕ) (vs : List ℕ) (next : ℕ) : Type 0 where
  fills : Fills s at (bytes_in vs) next

form_more : {s vs : List ℕ} {at v p q : ℕ} → FormAt s at v p → NumbersAt s p vs q → NumbersAt s at (v ∷ vs) q
form_more {vs = vs} {v = v} f g = record { fills = rw (bytes_more v vs) (fills_both (form_fills f) g.fills) }

form_last : {s : List ℕ} {at v q : ℕ} → FormAt s at v q → NumbersAt s at (v ∷ []) q
form_last {v = v} f = record { fills = rw (bytes_one v) (form_fills f) }

-- the same numbers, up to the same place
numbers_are : {s vs ws : List ℕ} {at p q : ℕ} → vs ≡ ws → p ≡ q → NumbersAt s at vs p → Fills s at (bytes_in ws) q
numbers_are e f n = rw (e, f) at n.fills

-- ---- what is read
-- a number was read, and reading went on
record ReadOn {A : Type 0} (s : List ℕ) (at : ℕ) (k : ℕ → ℕ → Result A Refusal) (z : A) : Type 0 where
  value : ℕ
  next : ℕ
  form : FormAt s at value next
  on : k value next ≡ Ok z

module _ (s : List ℕ) (bytes : Bytes s) where
  got_form : (at : ℕ) (r : Range) (fault : Refusal) (v next : ℕ) → got_at s at r fault ≡ Ok (v, next) → FormAt s at v next
  unfolding got_at held
  got_form at r fault v next e = by (number_at s at) refl e
    where
      by : (x : Number) → number_at s at ≡ x → held x (length s) at r fault ≡ Ok (v, next) → FormAt s at v next
      by (Err numberFault.Ends) q c = absurd (err_ok c)
      by (Err numberFault.Malformed) q c = absurd (err_ok c)
      by (Ok (a, b)) q c =
          let p = took (holds r a) _ _ _ c err_ok in
          let x : a ≡ v = ok_first p.1 in
          let y : b ≡ next = ok_second p.1 in
          read_form s bytes at v next (rw (x, y) at q)

  read_on : {A : Type 0} (at : ℕ) (r : Range) (fault : Refusal) (k : ℕ → ℕ → Result A Refusal) (z : A)
      → and_then (got_at s at r fault) k ≡ Ok z → ReadOn s at k z
  read_on at r fault k z e =
      let i = went (got_at s at r fault) k z e in
      record { value = i.value; next = i.next; form = got_form at r fault i.value i.next i.is; on = i.on }

  -- the numbers before the tasks
  pub opening_form : (e n m q : ℕ) → opening_of s ≡ Ok (opening e n m, q) → Fills s 0 (bytes_in (e ∷ n ∷ m ∷ [])) q
  unfolding opening_of
  opening_form e n m q w =
      let i = read_on 0 editions refusal.UnknownEdition _ (opening e n m, q) w in
      let j = read_on i.next task_counts (refusal.OutOfLimits i.next) _ (opening e n m, q) i.on in
      let k = read_on j.next processor_counts (refusal.OutOfLimits j.next) _ (opening e n m, q) j.on in
      let same : opening i.value j.value k.value ≡ opening e n m = ok_first k.on in
      let numbers : (i.value ∷ j.value ∷ k.value ∷ []) ≡ (e ∷ n ∷ m ∷ [])
      = ap (λ (o : Opening). o.edition ∷ o.tasks ∷ o.processors ∷ []) same in
      numbers_are numbers (ok_second k.on) (form_more i.form (form_more j.form (form_last k.form)))

  -- a task
  pub task_form : (p : ℕ) (t : Task) (q : ℕ) → task_from s p ≡ Ok (t, q)
      → Fills s p (bytes_in (numbers_of t)) q
  unfolding task_from times_from
  task_form p t q e =
      let i = read_on p periods (refusal.OutOfLimits p) _ (t, q) e in
      let j = read_on i.next (runnings i.value) (refusal.OutOfLimits i.next) _ (t, q) i.on in
      let k = read_on j.next (offsets i.value) (refusal.OutOfLimits j.next) _ (t, q) j.on in
      let l = read_on k.next (deadlines i.value j.value) (refusal.OutOfLimits k.next) _ (t, q) k.on in
      numbers_are (ap numbers_of (ok_first l.on)) (ok_second l.on)
      (form_more i.form (form_more j.form (form_more k.form (form_last l.form))))

  -- the number between tasks and patterns
  pub middle_form : (at : ℕ) (t : Tasks) (c : Cycle) (k q : ℕ) → middle_from s at t ≡ Ok (c, k, q) → Fills s at (number_bytes k) q
  unfolding middle_from
  middle_form at t c k q e =
      let b = took (cycle_fits t) _ _ _ e err_ok in
      let i = read_on at pattern_counts (refusal.OutOfLimits at) _ (c, k, q) b.1 in
      let xk : i.value ≡ k = ok3_second i.on in
      let xq : i.next ≡ q = ok3_third i.on in
      rw (xk, xq) at (form_fills i.form)

  -- a pattern's heading
  pub heading_form : (at : ℕ) (low : Key) (n used x y c q : ℕ) → heading_at s at low n used ≡ Ok (pattern x y c, q) → Fills s at (bytes_in (x ∷ y ∷ c ∷ [])) q
  unfolding heading_at count_from
  heading_form at low n used x y c q e =
      let i = read_on at (first_range low n) (refusal.Disordered at) _ (pattern x y c, q) e in
      let j = read_on i.next (second_range low i.value n) (refusal.Disordered i.next) _ (pattern x y c, q) i.on in
      let b = missed (eqb i.value j.value) _ _ _ j.on err_ok in
      let k = read_on j.next (range 1 2097152) (refusal.Disordered j.next) _ (pattern x y c, q) b.1 in
      let t = took (leb (used + k.value) most_pairs) _ _ _ k.on err_ok in
      let same : pattern i.value j.value k.value ≡ pattern x y c = ok_first t.1 in
      let numbers : (i.value ∷ j.value ∷ k.value ∷ []) ≡ (x ∷ y ∷ c ∷ []) = ap (λ (g : Pattern). g.from ∷ g.to ∷ g.pairs ∷ []) same in
      numbers_are numbers (ok_second t.1) (form_more i.form (form_more j.form (form_last k.form)))

  -- a pair
  pub two_form : (p : ℕ) (low : Key) (la lb x y q : ℕ) → two_at s p low la lb ≡ Ok (x, y, q) → Fills s p (bytes_in (x ∷ y ∷ [])) q
  unfolding two_at
  two_form p low la lb x y q e =
      let i = read_on p (first_range low la) (refusal.Disordered p) _ (x, y, q) e in
      let j = read_on i.next (second_range low i.value lb) (refusal.Disordered i.next) _ (x, y, q) i.on in
      let numbers : (i.value ∷ j.value ∷ []) ≡ (x ∷ y ∷ []) = ap₂ (λ a b. a ∷ b ∷ []) (ok3_first j.on) (ok3_second j.on) in
      numbers_are numbers (ok3_third j.on) (form_more i.form (form_last j.form))
