-- Laws of the definitions in specs/Table.antt.
use Rattle.std.specs.Prelude.{◌≡◌, Bool, true, false, get_or, set}
use Rattle.std.proofs.Math.Path.{refl, sym, ap}
use Rattle.std.proofs.Common.{◌∙◌, below_more, eq-or-lt_of_le, length-set, ext_get_or, get_or-set_same, get_or-set_other}
use mathlib.Core.List.{List, [], ◌∷◌, ◌++◌, append-nil}
use Rattle.std.proofs.Math.Logic.{⊎_elim}
use Prim.Native.Nat.{ℕ, zero, suc, ◌+◌, ◌≤◌, ◌<◌}
use native.Mathlib.Omega.{arith}
use Rattle.std.proofs.Math.ListN.{length}
use Rattle.vocabulary.specs.Table.{table, Filling, is, gather}

module _ {A : Type 0} where
  pub length_table : (f : ℕ → A) (n : ℕ) → length (table f n) ≡ n
  unfolding table
  length_table f zero = refl
  length_table f (suc n) = ap suc (length_table (λ i. f (suc i)) n)

  pub get_or_table : (f : ℕ → A) (n i : ℕ) (d : A) → i < n → get_or (table f n) i d ≡ f i
  unfolding table
  get_or_table f zero i d l = absurd (omega arith)
  get_or_table f (suc n) zero d l = refl
  get_or_table f (suc n) (suc i) d l = get_or_table (λ i. f (suc i)) n i d (omega arith)

  -- a list of n entries is a table by its entries
  pub is_table : (f : ℕ → A) (n : ℕ) (d : A) (xs : List A) → length xs ≡ n → ((i : ℕ) → i < n → get_or xs i d ≡ f i) → xs ≡ table f n
  is_table f n d xs e h =
      ext_get_or d xs (table f n) (e ∙ sym (length_table f n))
      (λ i l. let g : i < n = omega arith in h i g ∙ sym (get_or_table f n i d g))

  pub fill_from : (P : ℕ → A → Type 0) (n : ℕ) (d : A) (xs : List A) → length xs ≡ n → Filling P n 0 d xs
  fill_from P n d xs e = record { within = omega arith; long = e; before = λ j l. absurd (omega arith) }

  pub fill_on : (P : ℕ → A → Type 0) (n i : ℕ) (d : A) (xs : List A) (v : A) → Filling P n i d xs → i < n → P i v → Filling P n (i + 1) d (set xs i v)
  fill_on P n i d xs v p l e =
      record {
        within = omega arith;
        long = length-set xs i v ∙ p.long;
        before = below_more (λ (j : ℕ). P j (get_or (set xs i v) j d)) i there here;
      }
    where
      here : P i (get_or (set xs i v) i d)
      here = rw (get_or-set_same xs i v d (omega (arith, p.long))) e

      there : (j : ℕ) → j < i → P j (get_or (set xs i v) j d)
      there j h = rw (get_or-set_other xs i j v d (λ q. omega arith)) (p.before j h)

  pub filled : (P : ℕ → A → Type 0) (n i : ℕ) (d : A) (xs : List A) → Filling P n i d xs → n ≤ i → (j : ℕ) → j < n → P j (get_or xs j d)
  filled P n i d xs p l j h = p.before j (omega arith)

  pub filled_table : (f : ℕ → A) (n i : ℕ) (d : A) (xs : List A) → Filling (is f) n i d xs → n ≤ i → xs ≡ table f n
  filled_table f n i d xs p l = is_table f n d xs p.long (filled (is f) n i d xs p l)

  -- a table by its last entry
  pub table_end : (f : ℕ → A) (n : ℕ) → table f (suc n) ≡ table f n ++ (f n ∷ [])
  unfolding table
  table_end f zero = refl
  table_end f (suc n) = ap (λ (xs : List A). f 0 ∷ xs) (table_end (λ i. f (suc i)) n)

  -- where all pass, all are gathered,
  pub gather_all : (f : ℕ → A) (p : ℕ → Bool) (n : ℕ) → ((i : ℕ) → i < n → p i ≡ true) → gather f p n ≡ table f n
  unfolding gather
  gather_all f p zero h = sym (table_none f)
    where
      table_none : (f : ℕ → A) → table f 0 ≡ []
      table_none f = is_nil (table f 0) (length_table f 0)
        where
          is_nil : (xs : List A) → length xs ≡ 0 → xs ≡ []
          is_nil [] e = refl
          is_nil (x ∷ xs) e = absurd (omega arith)
  gather_all f p (suc n) h = rw (h n (omega arith), gather_all f p n (λ i l. h i (omega arith))) (sym (table_end f n))

  -- and where those below m pass and no others, the first m
  pub gather_first : (f : ℕ → A) (p : ℕ → Bool) (m n : ℕ) → m ≤ n → ((i : ℕ) → i < m → p i ≡ true) → ((i : ℕ) → m ≤ i → p i ≡ false) → gather f p n ≡ table f m
  unfolding gather
  gather_first f p m zero l pass stop = let e : m ≡ 0 = omega arith in rw e (gather_all f p 0 (λ i h. absurd (omega arith)))
  gather_first f p m (suc n) l pass stop =
      ⊎_elim (λ e. rw e (gather_all f p (suc n) (λ i h. pass i (omega arith))))
      (λ h. rw (stop n (omega arith), append-nil (gather f p n)) (gather_first f p m n (omega arith) pass stop)) (eq-or-lt_of_le l)
