-- Laws of the definitions in specs/Parts.antt.
use Rattle.std.specs.Prelude.{◌≡◌, List, [], ◌++◌, ◌⊎◌, length, get_or}
use Rattle.std.proofs.Common.{sym, ap, ◌∙◌, inl, inr, eq-or-lt_of_le, le_of_suc-le-suc, length-append, ext_get_or, get_or-append-add}
use Rattle.std.proofs.Math.Logic.{⊎_elim}
use Prim.Native.Nat.{ℕ, zero, suc, ◌+◌, ◌-◌, ◌≤◌, ◌<◌}
use native.Mathlib.Omega.{arith}
use Rattle.std.proofs.Math.ListN.{get_or-append}
use Rattle.vocabulary.proofs.Test.{lt_or_le}
use Rattle.vocabulary.specs.Table.{join}
use Rattle.vocabulary.specs.Parts.{PartAt}

pub part_none : (s : List ℕ) (at : ℕ) → at ≤ length s → PartAt s at []
part_none s at l = record { within = omega arith; entry = λ j h. absurd (omega arith) }

pub part_first : (xs ys : List ℕ) → PartAt (xs ++ ys) 0 xs
part_first xs ys =
    record {
      within = omega (arith, length-append xs ys);
      entry = λ j h. let z : 0 + j ≡ j = omega arith in rw z (get_or-append xs ys 0 j h);
    }

-- a part at an equal place
pub part_move : (s : List ℕ) (a b : ℕ) (xs : List ℕ) → a ≡ b → PartAt s a xs → PartAt s b xs
part_move s a b xs e p = rw e at p

-- ---- a part of two lists, one after the other
module _ (s : List ℕ) (at : ℕ) (xs ys : List ℕ) where
  pub part_front : PartAt s at (xs ++ ys) → PartAt s at xs
  part_front p =
      record {
        within = omega (arith, p.within, length-append xs ys);
        entry = λ j h. p.entry j (omega (arith, length-append xs ys)) ∙ get_or-append xs ys 0 j h;
      }

  pub part_back : PartAt s at (xs ++ ys) → PartAt s (at + length xs) ys
  part_back p =
      record {
        within = omega (arith, p.within, length-append xs ys);
        entry = λ j h.
            let z : at + length xs + j ≡ at + (length xs + j) = omega arith in
            rw z (p.entry (length xs + j) (omega (arith, length-append xs ys)) ∙ get_or-append-add xs ys j 0);
      }

  pub part_both : PartAt s at xs → PartAt s (at + length xs) ys → PartAt s at (xs ++ ys)
  part_both p q = record { within = omega (arith, q.within, length-append xs ys); entry = λ j h. by j h (lt_or_le j (length xs)) }
    where
      by : (j : ℕ) → j < length (xs ++ ys) → (j < length xs) ⊎ (length xs ≤ j) → get_or s (at + j) 0 ≡ get_or (xs ++ ys) j 0
      by j h (inl a) = p.entry j a ∙ sym (get_or-append xs ys 0 j a)
      by j h (inr a) =
          let i : ℕ = j - length xs in
          let e : length xs + i ≡ j = omega arith in
          let f : at + length xs + i ≡ at + j = omega arith in
          rw f at (q.entry i (omega (arith, length-append xs ys))) ∙ sym (get_or-append-add xs ys i 0) ∙ ap (λ (n : ℕ). get_or (xs ++ ys) n 0) e

-- ---- a part that is the whole list
pub part_whole : (s xs : List ℕ) → length s ≡ length xs → PartAt s 0 xs → s ≡ xs
part_whole s xs e p = ext_get_or 0 s xs e (λ j l. let z : 0 + j ≡ j = omega arith in rw z at (p.entry j (omega arith)))

-- ---- a join of n parts
module _ (s : List ℕ) (at : ℕ) (f : ℕ → List ℕ) where
  pub part_of_join : (n k : ℕ) → k < n → PartAt s at (join f n) → PartAt s (at + length (join f k)) (f k)
  unfolding join
  part_of_join zero k l p = absurd (omega arith)
  part_of_join (suc n) k l p =
      ⊎_elim (λ e. rw e (part_back s at (join f n) (f n) p)) (λ h. part_of_join n k h (part_front s at (join f n) (f n) p))
      (eq-or-lt_of_le (le_of_suc-le-suc l))

  pub part_on : (k : ℕ) → PartAt s at (join f k) → PartAt s (at + length (join f k)) (f k) → PartAt s at (join f (k + 1))
  unfolding join
  part_on k p q = let z : k + 1 ≡ suc k = omega arith in rw z (part_both s at (join f k) (f k) p q)

  pub join_long : (k : ℕ) → length (join f (k + 1)) ≡ length (join f k) + length (f k)
  unfolding join
  join_long k = let z : k + 1 ≡ suc k = omega arith in rw z (length-append (join f k) (f k))
