-- Laws of the definitions in specs/Lists.antt.
use Rattle.std.specs.Prelude.{◌≡◌, Bool, List, [], ◌∷◌, ◌++◌, ◌⊎◌, get_or}
use Rattle.std.proofs.Math.Path.{refl, ap}
use Rattle.std.proofs.Common.{sym, ◌∙◌, subst, inl, inr, eq-or-lt_of_le, le_of_suc-le-suc, get_or-append-add}
use Rattle.std.proofs.Math.Bool.{true, false}
use Rattle.std.proofs.Math.Logic.{⊎_elim}
use Prim.Native.Nat.{ℕ, zero, suc, ◌+◌, ◌-◌, ◌*◌, ◌≤◌, ◌<◌}
use native.Mathlib.Omega.{arith}
use Rattle.std.proofs.Math.ListN.{length, length-append, get_or-append}
use Rattle.vocabulary.specs.Test.{pick, bit}
use Rattle.vocabulary.proofs.Test.{lt_or_le}
use Rattle.vocabulary.specs.Count.{count}
use Rattle.vocabulary.specs.Total.{total}
use Rattle.vocabulary.specs.Table.{join, gather}
use Rattle.vocabulary.specs.Lists.{Stands}

module _ {A : Type 0} where
  -- an entry of two lists, one after the other, is one of the first or of the second
  pub each_append : (P : A → Type 0) (d : A) (xs ys : List A) → ((x : ℕ) → x < length xs → P (get_or xs x d))
      → ((x : ℕ) → x < length ys → P (get_or ys x d)) → (x : ℕ) → x < length (xs ++ ys) → P (get_or (xs ++ ys) x d)
  each_append P d xs ys first second x l = go (lt_or_le x (length xs))
    where
      go : (x < length xs) ⊎ (length xs ≤ x) → P (get_or (xs ++ ys) x d)
      go (inl a) = subst P (sym (get_or-append xs ys d x a)) (first x a)
      go (inr a) =
          let e : length xs + (x - length xs) ≡ x = omega arith in
          subst P (sym (ap (λ (n : ℕ). get_or (xs ++ ys) n d) (sym e) ∙ get_or-append-add xs ys (x - length xs) d))
          (second (x - length xs) (omega (arith, length-append xs ys)))

  -- a fact of every entry of a join, from every entry of each part
  pub each_join : (P : A → Type 0) (d : A) (f : ℕ → List A) (n : ℕ) → ((k : ℕ) → k < n → (x : ℕ) → x < length (f k) → P (get_or (f k) x d)) → (x : ℕ)
      → x < length (join f n) → P (get_or (join f n) x d)
  unfolding join
  each_join P d f zero h x l = absurd (omega arith)
  each_join P d f (suc n) h x l =
      each_append P d (join f n) (f n) (each_join P d f n (λ k lk. h k (omega arith))) (h n (omega arith)) x l

  pub length_join : (f : ℕ → List A) (n : ℕ) → length (join f n) ≡ total (λ k. length (f k)) n
  unfolding join total
  length_join f zero = refl
  length_join f (suc n) = length-append (join f n) (f n) ∙ ap (λ (m : ℕ). m + length (f n)) (length_join f n)

  -- parts that are no longer than c
  pub length_join_most : (f : ℕ → List A) (n c : ℕ) → ((k : ℕ) → k < n → length (f k) ≤ c) → length (join f n) ≤ n * c
  unfolding join
  length_join_most f zero c h = omega arith
  length_join_most f (suc n) c h = omega (arith, length-append (join f n) (f n), length_join_most f n c (λ k l. h k (omega arith)), h n (omega arith))

  pub join_same : (f g : ℕ → List A) (n : ℕ) → ((k : ℕ) → k < n → f k ≡ g k) → join f n ≡ join g n
  unfolding join
  join_same f g zero h = refl
  join_same f g (suc n) h = rw (join_same f g n (λ k l. h k (omega arith)), h n (omega arith))

  -- a fact of every entry of a gathering, from the numbers that pass
  pub each_gather : (P : A → Type 0) (d : A) (f : ℕ → A) (p : ℕ → Bool) (n : ℕ) → ((k : ℕ) → k < n → p k ≡ true → P (f k)) → (x : ℕ)
      → x < length (gather f p n) → P (get_or (gather f p n) x d)
  unfolding gather
  each_gather P d f p zero h x l = absurd (omega arith)
  each_gather P d f p (suc n) h x l =
      each_append P d (gather f p n) (pick (p n) (f n ∷ []) []) (each_gather P d f p n (λ k lk. h k (omega arith))) (last (p n) refl) x l
    where
      last : (b : Bool) → p n ≡ b → (y : ℕ) → y < length (pick b (f n ∷ []) []) → P (get_or (pick b (f n ∷ []) []) y d)
      last true e zero m = h n (omega arith) e
      last true e (suc y) m = absurd (omega arith)
      last false e y m = absurd (omega arith)

  pub length_gather : (f : ℕ → A) (p : ℕ → Bool) (n : ℕ) → length (gather f p n) ≡ count p 0 n
  unfolding gather count
  length_gather f p zero = refl
  length_gather f p (suc n) =
      length-append (gather f p n) (pick (p n) (f n ∷ []) [])
      ∙ rw (length_gather f p n, let z : 0 + n ≡ n = omega arith in z) (ap (λ (m : ℕ). count p 0 n + m) (one (p n)))
    where
      one : (b : Bool) → length (pick b (f n ∷ []) []) ≡ bit b
      one true = refl
      one false = refl

  pub stands_left : (d : A) (xs ys : List A) (a : A) → Stands d xs a → Stands d (xs ++ ys) a
  stands_left d xs ys a w =
      record { at = w.at; low = omega (arith, length-append xs ys, w.low); is = get_or-append xs ys d w.at w.low ∙ w.is }

  pub stands_right : (d : A) (xs ys : List A) (a : A) → Stands d ys a → Stands d (xs ++ ys) a
  stands_right d xs ys a w =
      record { at = length xs + w.at; low = omega (arith, length-append xs ys, w.low); is = get_or-append-add xs ys w.at d ∙ w.is }

  -- every entry of a part stands in the join
  pub stands_join : (d : A) (f : ℕ → List A) (n k : ℕ) (a : A) → k < n → Stands d (f k) a → Stands d (join f n) a
  unfolding join
  stands_join d f zero k a l w = absurd (omega arith)
  stands_join d f (suc n) k a l w =
      ⊎_elim (λ e. stands_right d (join f n) (f n) a (subst (λ (m : ℕ). Stands d (f m) a) e w))
      (λ h. stands_left d (join f n) (f n) a (stands_join d f n k a h w)) (eq-or-lt_of_le (le_of_suc-le-suc l))

  -- every number that passes is gathered
  pub stands_gather : (d : A) (f : ℕ → A) (p : ℕ → Bool) (n k : ℕ) → k < n → p k ≡ true → Stands d (gather f p n) (f k)
  unfolding gather
  stands_gather d f p zero k l e = absurd (omega arith)
  stands_gather d f p (suc n) k l e =
      ⊎_elim (λ q. stands_right d (gather f p n) (pick (p n) (f n ∷ []) []) (f k) (last q))
      (λ h. stands_left d (gather f p n) (pick (p n) (f n ∷ []) []) (f k) (stands_gather d f p n k h e)) (eq-or-lt_of_le (le_of_suc-le-suc l))
    where
      last : k ≡ n → Stands d (pick (p n) (f n ∷ []) []) (f k)
      last q = rw (ap p (sym q) ∙ e) (record { at = 0; low = omega arith; is = ap f (sym q) })
