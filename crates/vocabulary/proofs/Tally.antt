-- Laws of the definitions in specs/Tally.antt.
use Rattle.std.specs.Prelude.{◌≡◌, refl, List, [], ◌∷◌, ◌⊎◌, ℕ, ◌+◌, ◌≤◌, ◌<◌, eqb, length, get_or, set}
use Rattle.std.proofs.Common.{sym, ap, ◌∙◌, subst, inl, inr, ⊎_elim, eq-or-lt_of_le, arith, length-set, get_or-set_same, get_or-set_other, eq-eqb, ne_eqb}
use Rattle.vocabulary.specs.Test.{bit}
use Rattle.vocabulary.proofs.Test.{eq_or_ne}
use Rattle.vocabulary.specs.Count.{count}
use Rattle.vocabulary.proofs.Count.{count_more, count_zero, count_le, count_pos}
use Rattle.vocabulary.specs.Tally.{count_at, first_at, last_at, Earlier, Later, Noted, Tally, Fresh}

pub tally_from : (f x : ℕ → ℕ) (P : ℕ → ℕ → Type 0) (n : ℕ) (rows : List (List ℕ)) → Fresh n rows → Tally f x P n 0 rows
tally_from f x P n rows z =
    record {
      number = λ j l. z.zero j l ∙ sym (count_zero (λ i. eqb (f i) j) 0);
      bounds = λ j i l h e. absurd (omega arith);
      first = λ j l h. absurd (omega (arith, z.zero j l));
      last = λ j l h. absurd (omega (arith, z.zero j l));
      long = z.long;
    }

-- the sums fit
pub tally_room : (f x : ℕ → ℕ) (P : ℕ → ℕ → Type 0) (n e : ℕ) (rows : List (List ℕ)) → Tally f x P n e rows → (j : ℕ) → j < n → count_at rows j ≤ e
tally_room f x P n e rows t j l = omega (arith, t.number j l, count_le (λ i. eqb (f i) j) 0 e)

count_on : (f : ℕ → ℕ) (j e : ℕ) → count (λ i. eqb (f i) j) 0 (e + 1) ≡ count (λ i. eqb (f i) j) 0 e + bit (eqb (f e) j)
count_on f j e =
    count_more (λ i. eqb (f i) j) 0 e
    ∙ ap (λ (u : ℕ). count (λ i. eqb (f i) j) 0 e + bit (eqb (f u) j)) (let z : 0 + e ≡ e = omega arith in z)

-- an event whose key is not in the table
pub tally_skip : (f x : ℕ → ℕ) (P : ℕ → ℕ → Type 0) (n e : ℕ) (rows : List (List ℕ)) → Tally f x P n e rows → n ≤ f e → Tally f x P n (e + 1) rows
tally_skip f x P n e rows t h =
    record {
      number = λ j l. omega (arith, t.number j l, count_on f j e, ap bit (ne_eqb (f e) j (λ q. omega arith)));
      bounds = λ j i l k q. ⊎_elim (λ g. absurd (omega (arith, ap f g))) (λ g. t.bounds j i l g q) (at i k);
      first = t.first;
      last = t.last;
      long = t.long;
    }
  where
    at : (i : ℕ) → i < e + 1 → (i ≡ e) ⊎ (i < e)
    at i k = eq-or-lt_of_le (omega arith)

-- an event that is noted: the row of its key is written, and no other
module _ (rows : List (List ℕ)) (j c a b : ℕ) where
  abbrev put : List (List ℕ)
  put = set rows j (c ∷ a ∷ b ∷ [])

  same : j < length rows → get_or put j [] ≡ c ∷ a ∷ b ∷ []
  same l = get_or-set_same rows j (c ∷ a ∷ b ∷ []) [] l

  other : (k : ℕ) → (k ≡ j → ⊥) → get_or put k [] ≡ get_or rows k []
  other k q = get_or-set_other rows j k (c ∷ a ∷ b ∷ []) [] q

  -- what is known of the event and of what is written
  record Next (f x : ℕ → ℕ) (P : ℕ → ℕ → Type 0) (n e : ℕ) : Type 0 where
    key : j ≡ f e
    low : j < n
    count : c ≡ count_at rows j + 1
    early : Earlier (count_at rows j) (first_at rows j) (x e) a
    late : Later (count_at rows j) (last_at rows j) (x e) b
    known : P j (x e)

  module _ (f x : ℕ → ℕ) (P : ℕ → ℕ → Type 0) (n e : ℕ) (t : Tally f x P n e rows) (w : Next f x P n e) where
    abbrev lj : j < n
    lj = w.low

    here : get_or put j [] ≡ c ∷ a ∷ b ∷ []
    here = same (omega (arith, t.long))

    num : (k : ℕ) → k < n → (k ≡ j) ⊎ (k ≡ j → ⊥) → count_at put k ≡ count (λ i. eqb (f i) k) 0 (e + 1)
    num k l (inl q) = rw (q, here) (omega (arith, w.count, t.number j lj, count_on f j e, ap bit (eq-eqb (f e) j (sym w.key))))
    num k l (inr q) = rw (other k q) (omega (arith, t.number k l, count_on f k e, ap bit (ne_eqb (f e) k (λ g. q (omega (arith, w.key))))))

    -- an earlier event under the same key was counted
    was : (i : ℕ) → i < e → f i ≡ j → 0 < count_at rows j
    was i h q = omega (arith, t.number j lj, count_pos (λ u. eqb (f u) j) e i h (eq-eqb (f i) j q))

    bds : (k i : ℕ) → k < n → i < e + 1 → f i ≡ k → (k ≡ j) ⊎ (k ≡ j → ⊥) → (first_at put k ≤ x i) × (x i ≤ last_at put k)
    bds k i l h q (inr g) =
        rw (other k g) (⊎_elim (λ z. absurd (g (sym q ∙ ap f z ∙ sym w.key))) (λ z. t.bounds k i l z q) (eq-or-lt_of_le (let z : i ≤ e = omega arith in z)))
    bds k i l h q (inl g) = rw (g, here) (go (eq-or-lt_of_le (let z : i ≤ e = omega arith in z)))
      where
        go : (i ≡ e) ⊎ (i < e) → (a ≤ x i) × (x i ≤ b)
        go (inl z) = (omega (arith, ap x z, w.early.new), omega (arith, ap x z, w.late.new))
        go (inr z) =
            let r = t.bounds j i lj z (q ∙ g) in
            let y = was i z (q ∙ g) in
            (omega (arith, r.0, w.early.old y), omega (arith, r.1, w.late.old y))

    fst : (k : ℕ) → k < n → 0 < count_at put k → (k ≡ j) ⊎ (k ≡ j → ⊥) → P k (first_at put k)
    fst k l h (inr g) = rw (other k g) (t.first k l (omega (arith, ap (λ (r : List ℕ). get_or r 0 0) (other k g))))
    fst k l h (inl g) = rw (g, here) (⊎_elim (λ z. rw z w.known) (λ z. rw z.0 (t.first j lj z.1)) w.early.one)

    lst : (k : ℕ) → k < n → 0 < count_at put k → (k ≡ j) ⊎ (k ≡ j → ⊥) → P k (last_at put k)
    lst k l h (inr g) = rw (other k g) (t.last k l (omega (arith, ap (λ (r : List ℕ). get_or r 0 0) (other k g))))
    lst k l h (inl g) = rw (g, here) (⊎_elim (λ z. rw z w.known) (λ z. rw z.0 (t.last j lj z.1)) w.late.one)

    noted : Tally f x P n (e + 1) put
    noted =
        record {
          number = λ k l. num k l (eq_or_ne k j);
          bounds = λ k i l h q. bds k i l h q (eq_or_ne k j);
          first = λ k l h. fst k l h (eq_or_ne k j);
          last = λ k l h. lst k l h (eq_or_ne k j);
          long = length-set rows j (c ∷ a ∷ b ∷ []) ∙ t.long;
        }

pub tally_note : (f x : ℕ → ℕ) (P : ℕ → ℕ → Type 0) (n e j x₀ : ℕ) (rows rows' : List (List ℕ)) → Tally f x P n e rows → j ≡ f e → x₀ ≡ x e → j < n → P j x₀
    → Noted j x₀ rows rows' → Tally f x P n (e + 1) rows'
tally_note f x P n e j x₀ rows rows' t ej ex lj p w =
    subst (λ (z : List (List ℕ)). Tally f x P n (e + 1) z) (sym w.put)
    (noted rows j (count_at rows j + 1) w.a w.b f x P n e t
    (record { key = ej; low = lj; count = refl; early = rw ex at w.early; late = rw ex at w.late; known = rw ex at p }))
