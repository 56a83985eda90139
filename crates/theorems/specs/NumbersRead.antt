-- The bytes of numbers that stand in a file are read as these numbers: one number, a task, a pair, a pattern's heading and what stands before the tasks.
use Rattle.std.specs.Prelude.{◌≡◌, true, ℕ, ◌+◌, ◌<◌, ◌≤◌, eqb, Ok}
use Rattle.std.proofs.Common.{◌∙◌, length-append}
use Rattle.std.proofs.Math.Bool.{not}
use mathlib.Core.List.{List, [], ◌∷◌}
use native.Mathlib.Omega.{arith}
use Rattle.std.proofs.Math.Dec.{leb}
use Rattle.std.proofs.Math.ListN.{length}
use borrow.Author.Tests.{not-true, leb-true}
use Rattle.vocabulary.specs.Test.{pick}
use Rattle.vocabulary.proofs.Test.{both}
use Rattle.vocabulary.specs.Parts.{PartAt}
use Rattle.vocabulary.proofs.Parts.{part_front, part_back}
use Rattle.kinds.specs.declared.Key.{Key}
use Rattle.kinds.specs.declared.Task.{Task}
use Rattle.kinds.specs.Limits.{Range, range, holds, periods, runnings, offsets, deadlines, first_range, second_range, rises}
use Rattle.kinds.specs.Limits.{task_counts, processor_counts, fewest_pairs}
use Rattle.kinds.specs.Editions.{editions}
use Rattle.kinds.specs.Sound.{attributes_fit, heading_fits, opening_fits}
use Rattle.kinds.specs.RangeLaws.{holds_yes, holds_at}
use Rattle.numbers.specs.declared.Refusal.{Refusal}
use Rattle.numbers.specs.declared.Refusal.TheVariants as refusal
use Rattle.numbers.specs.Numbers.{number_bytes, held, got_at, and_then}
use Rattle.numbers.specs.Forms.{form_read}
use Rattle.writer.specs.Format.{numbers_of, bytes_in}
use Rattle.writer.specs.FormatLaws.{bytes_none, bytes_more}
use Rattle.heads.specs.Tables.{pattern, times_from, task_from, two_at, count_from, heading_at}
use Rattle.heads.specs.Heads.{opening, opening_of}

-- ---- one number that is in its range
-- the place after the bytes of v
abbrev pub past : ℕ → ℕ → ℕ
past at v = at + length (number_bytes v)

pub got_at_lem : (file : List ℕ) (at : ℕ) (r : Range) (fault : Refusal) (v : ℕ) → holds r v ≡ true → v < 2097152 → PartAt file at (number_bytes v)
    → got_at file at r fault ≡ Ok (v, past at v)
unfolding got_at held
got_at_lem file at r fault v h l p = rw (form_read file at v l p, h)

-- ---- the first of some numbers, and those behind it
module _ (file : List ℕ) (at v : ℕ) (vs : List ℕ) where
  first : PartAt file at (bytes_in (v ∷ vs)) → PartAt file at (number_bytes v)
  first p = part_front file at (number_bytes v) (bytes_in vs) (rw (bytes_more v vs) at p)

  rest : PartAt file at (bytes_in (v ∷ vs)) → PartAt file (past at v) (bytes_in vs)
  rest p = part_back file at (number_bytes v) (bytes_in vs) (rw (bytes_more v vs) at p)

long : (at v : ℕ) (vs : List ℕ) → past at v + length (bytes_in vs) ≡ at + length (bytes_in (v ∷ vs))
long at v vs = rw (bytes_more v vs) (omega (arith, length-append (number_bytes v) (bytes_in vs)))

none : (at : ℕ) → at ≡ at + length (bytes_in [])
none at = rw bytes_none (omega arith)

-- the place after two, three and four numbers
after_two : (at a b : ℕ) → past (past at a) b ≡ at + length (bytes_in (a ∷ b ∷ []))
after_two at a b = none _ ∙ long (past at a) b [] ∙ long at a (b ∷ [])

after_three : (at a b c : ℕ) → past (past (past at a) b) c ≡ at + length (bytes_in (a ∷ b ∷ c ∷ []))
after_three at a b c = after_two (past at a) b c ∙ long at a (b ∷ c ∷ [])

after_four : (at a b c d : ℕ) → past (past (past (past at a) b) c) d ≡ at + length (bytes_in (a ∷ b ∷ c ∷ d ∷ []))
after_four at a b c d = after_three (past at a) b c d ∙ long at a (b ∷ c ∷ d ∷ [])

-- ---- a task
module _ (file : List ℕ) (at : ℕ) (t : Task) where
  abbrev T : ℕ
  T = t.period

  abbrev C : ℕ
  C = t.running

  abbrev O : ℕ
  O = t.offset

  abbrev D : ℕ
  D = t.deadline

  pub task_read : attributes_fit t ≡ true → PartAt file at (bytes_in (numbers_of t)) → task_from file at ≡ Ok (t, at + length (bytes_in (numbers_of t)))
  unfolding attributes_fit task_from times_from and_then
  task_read e p =
      let w = both {a = holds periods T} e in
      let x = both {a = holds (runnings T) C} w.1 in
      let y = both {a = holds (offsets T) O} x.1 in
      let a : (1 ≤ T) × (T < 6001) = holds_at 1 6001 T w.0 in
      let b : (1 ≤ C) × (C < T + 1) = holds_at 1 (T + 1) C x.0 in
      let f : (0 ≤ O) × (O < T) = holds_at 0 T O y.0 in
      let g : (C ≤ D) × (D < T + 1) = holds_at C (T + 1) D y.1 in
      let q₁ : PartAt file (past at T) (bytes_in (C ∷ O ∷ D ∷ [])) = rest file at T (C ∷ O ∷ D ∷ []) p in
      let q₂ : PartAt file (past (past at T) C) (bytes_in (O ∷ D ∷ [])) = rest file (past at T) C (O ∷ D ∷ []) q₁ in
      let q₃ : PartAt file (past (past (past at T) C) O) (bytes_in (D ∷ [])) = rest file (past (past at T) C) O (D ∷ []) q₂ in
      rw (
        got_at_lem file at periods (refusal.OutOfLimits at) T w.0 (omega arith) (first file at T (C ∷ O ∷ D ∷ []) p),
        got_at_lem file (past at T) (runnings T) (refusal.OutOfLimits (past at T)) C x.0 (omega arith) (first file (past at T) C (O ∷ D ∷ []) q₁),
        got_at_lem file (past (past at T) C) (offsets T) (refusal.OutOfLimits (past (past at T) C)) O y.0 (omega arith)
            (first file (past (past at T) C) O (D ∷ []) q₂),
        got_at_lem file (past (past (past at T) C) O) (deadlines T C) (refusal.OutOfLimits (past (past (past at T) C) O)) D y.1 (omega arith)
            (first file (past (past (past at T) C) O) D [] q₃),
        after_four at T C O D,
      )

-- ---- two numbers in order
module _ (file : List ℕ) (at : ℕ) (low : Key) (la lb x y : ℕ) where
  pub two_read : rises low la lb x y ≡ true → la ≤ 6000 → lb ≤ 12000 → PartAt file at (bytes_in (x ∷ y ∷ []))
      → two_at file at low la lb ≡ Ok (x, y, at + length (bytes_in (x ∷ y ∷ [])))
  unfolding rises two_at and_then
  two_read e ha hb p =
      let w = both {a = holds (first_range low la) x} e in
      let a = holds_at low.first la x w.0 in
      let b = holds_at (pick (eqb x low.first) low.second 0) lb y w.1 in
      let q : PartAt file (past at x) (bytes_in (y ∷ [])) = rest file at x (y ∷ []) p in
      rw (
        got_at_lem file at (first_range low la) (refusal.Disordered at) x w.0 (omega (arith, a.1)) (first file at x (y ∷ []) p),
        got_at_lem file (past at x) (second_range low x lb) (refusal.Disordered (past at x)) y w.1 (omega (arith, b.1)) (first file (past at x) y [] q),
        after_two at x y,
      )

-- ---- a pattern's heading
module _ (file : List ℕ) (at : ℕ) (low : Key) (n used x y c : ℕ) where
  pub heading_read : heading_fits n low x y c used ≡ true → n ≤ 64 → PartAt file at (bytes_in (x ∷ y ∷ c ∷ []))
      → heading_at file at low n used ≡ Ok (pattern x y c, at + length (bytes_in (x ∷ y ∷ c ∷ [])))
  unfolding heading_fits rises heading_at count_from and_then
  heading_read e few p =
      let h = both {a = rises low n n x y} e in
      let w = both {a = holds (first_range low n) x} h.0 in
      let k = both {a = not (eqb x y)} h.1 in
      let m = both {a = leb fewest_pairs c} k.1 in
      let a = holds_at low.first n x w.0 in
      let b = holds_at (pick (eqb x low.first) low.second 0) n y w.1 in
      let room : used + c ≤ 1024 = leb-true (used + c) 1024 m.1 in
      let q₁ : PartAt file (past at x) (bytes_in (y ∷ c ∷ [])) = rest file at x (y ∷ c ∷ []) p in
      let q₂ : PartAt file (past (past at x) y) (bytes_in (c ∷ [])) = rest file (past at x) y (c ∷ []) q₁ in
      rw (
        got_at_lem file at (first_range low n) (refusal.Disordered at) x w.0 (omega (arith, a.1)) (first file at x (y ∷ c ∷ []) p),
        got_at_lem file (past at x) (second_range low x n) (refusal.Disordered (past at x)) y w.1 (omega (arith, b.1)) (first file (past at x) y (c ∷ []) q₁),
        not-true (eqb x y) k.0,
        got_at_lem file (past (past at x) y) (range fewest_pairs 2097152) (refusal.Disordered (past (past at x) y)) c
            (holds_yes 1 2097152 c (leb-true 1 c m.0) (omega arith)) (omega arith) (first file (past (past at x) y) c [] q₂),
        m.1,
        after_three at x y c,
      )

-- ---- what stands before the tasks
module _ (file : List ℕ) (e n m : ℕ) where
  pub opening_read : opening_fits e n m ≡ true → PartAt file 0 (bytes_in (e ∷ n ∷ m ∷ []))
      → opening_of file ≡ Ok (opening e n m, length (bytes_in (e ∷ n ∷ m ∷ [])))
  unfolding opening_fits opening_of and_then
  opening_read h p =
      let w = both {a = holds editions e} h in
      let x = both {a = holds task_counts n} w.1 in
      let a = holds_at 1 3 e w.0 in
      let b = holds_at 1 65 n x.0 in
      let d = holds_at 1 9 m x.1 in
      let q₁ : PartAt file (past 0 e) (bytes_in (n ∷ m ∷ [])) = rest file 0 e (n ∷ m ∷ []) p in
      let q₂ : PartAt file (past (past 0 e) n) (bytes_in (m ∷ [])) = rest file (past 0 e) n (m ∷ []) q₁ in
      let z : past (past (past 0 e) n) m ≡ length (bytes_in (e ∷ n ∷ m ∷ [])) = after_three 0 e n m ∙ omega arith in
      rw (
        got_at_lem file 0 editions refusal.UnknownEdition e w.0 (omega (arith, a.1)) (first file 0 e (n ∷ m ∷ []) p),
        got_at_lem file (past 0 e) task_counts (refusal.OutOfLimits (past 0 e)) n x.0 (omega (arith, b.1)) (first file (past 0 e) n (m ∷ []) q₁),
        got_at_lem file (past (past 0 e) n) processor_counts (refusal.OutOfLimits (past (past 0 e) n)) m x.1 (omega (arith, d.1))
            (first file (past (past 0 e) n) m [] q₂),
        z,
      )
