-- Laws of the definitions in specs/First.antt.
use Rattle.std.specs.Prelude.{◌≡◌, Bool, not, ◌&&◌, ◌||◌, ◌⊎◌, ℕ, zero, suc, ◌<◌, ◌≤◌}
use Rattle.std.proofs.Math.Path.{refl}
use Rattle.std.proofs.Common.{sym, ap, ◌∙◌, inl, inr, arith}
use Rattle.std.proofs.Math.Bool.{true, false}
use mathlib.Core.List.{List, [], ◌∷◌}
use Rattle.std.proofs.Math.Dec.{eqb}
use borrow.Author.Tests.{eq-eqb, eqb-true}
use Rattle.vocabulary.specs.Test.{pick}
use Rattle.vocabulary.proofs.Test.{clash, lt_or_le}
use Rattle.vocabulary.specs.First.{Rule, first_of, from, ends_at, answer_at, rank_of, First, earlier, numbers_of, Each, Told, Claim, pick_type, KeptBy, AllKept}

-- Two chains tell the same, of which `say` tells a part or all, where each rule is broken in both or in none: its answer counts only where it is, and what
-- stands behind it where it is not.
pub first_said : {A B : Type 0} (say : A → B) (r x : Rule A) (rs xs : List (Rule A)) (d : A) → r.broken ≡ x.broken
    → (r.broken ≡ true → say r.answer ≡ say x.answer) → (r.broken ≡ false → say (first_of rs d) ≡ say (first_of xs d))
    → say (first_of (r ∷ rs) d) ≡ say (first_of (x ∷ xs) d)
unfolding first_of
first_said {A} say r x rs xs d e f g = go r.broken refl
  where
    go : (b : Bool) → r.broken ≡ b → say (pick b r.answer (first_of rs d)) ≡ say (pick x.broken x.answer (first_of xs d))
    go true h = f h ∙ ap (λ (c : Bool). say (pick c x.answer (first_of xs d))) (sym h ∙ e)
    go false h = g h ∙ ap (λ (c : Bool). say (pick c x.answer (first_of xs d))) (sym h ∙ e)

pub first_same : {A : Type 0} (r x : Rule A) (rs xs : List (Rule A)) (d : A) → r.broken ≡ x.broken → (r.broken ≡ true → r.answer ≡ x.answer)
    → (r.broken ≡ false → first_of rs d ≡ first_of xs d) → first_of (r ∷ rs) d ≡ first_of (x ∷ xs) d
first_same {A} r x rs xs d e f g = first_said (λ (a : A). a) r x rs xs d e f g

-- There is such a rank,
pub first_is : {A : Type 0} (rs : List (Rule A)) → First rs (rank_of rs)
unfolding ends_at rank_of
first_is [] = record { broken = refl; before = λ j l. absurd (omega arith) }
first_is (r ∷ rs) = go r.broken refl (first_is rs)
  where
    past : (k : ℕ) → r.broken ≡ false → ((j : ℕ) → j < k → ends_at rs j ≡ false) → (j : ℕ) → j < suc k → ends_at (r ∷ rs) j ≡ false
    past k e h zero l = e
    past k e h (suc j) l = h j (omega arith)

    go : (b : Bool) → r.broken ≡ b → First rs (rank_of rs) → First (r ∷ rs) (pick b 0 (suc (rank_of rs)))
    go true e f = record { broken = e; before = λ j l. absurd (omega arith) }
    go false e f = record { broken = f.broken; before = past (rank_of rs) e f.before }

-- its rule answers,
pub first_answers : {A : Type 0} (rs : List (Rule A)) (d : A) (k : ℕ) → First rs k → first_of rs d ≡ answer_at rs d k
unfolding first_of ends_at answer_at
first_answers [] d k f = refl
first_answers (r ∷ rs) d zero f = rw f.broken
first_answers (r ∷ rs) d (suc k) f =
    rw (f.before 0 (omega arith)) (first_answers rs d k (record { broken = f.broken; before = λ j l. f.before (suc j) (omega arith) }))

-- and it is the only one.
pub first_only : {A : Type 0} (rs : List (Rule A)) (j k : ℕ) → First rs j → First rs k → j ≡ k
first_only rs j k f g = go (lt_or_le j k) (lt_or_le k j)
  where
    go : (j < k) ⊎ (k ≤ j) → (k < j) ⊎ (j ≤ k) → j ≡ k
    go (inl l) h = clash f.broken (g.before j l)
    go (inr l) (inl h) = clash g.broken (f.before k h)
    go (inr l) (inr h) = omega arith

here : (k n : ℕ) (ks : List ℕ) → eqb k n ≡ false → earlier (k ∷ ks) k n ≡ true
unfolding earlier
here k n ks e = rw (e, eq-eqb k k refl)

there : (k m n : ℕ) (ks : List ℕ) → eqb k n ≡ false → earlier ks m n ≡ true → earlier (k ∷ ks) m n ≡ true
unfolding earlier
there k m n ks e h = rw (e, h) (go (eqb k m))
  where
    go : (b : Bool) → (b || true) ≡ true
    go true = refl
    go false = refl

module _ {A : Type 0} (d : A) (Keeps : ℕ → Type 0) (Breach : A → Type 0) (number_of : A → ℕ) where
  -- Where the rules before n are kept, the answer is that of the chain from n on.
  pub first_from : (rs : List (Rule A)) (n : ℕ) → Each (Told Keeps Breach number_of) rs → ((m : ℕ) → earlier (numbers_of rs) m n ≡ true → Keeps m)
      → first_of rs d ≡ first_of (from n rs) d
  unfolding first_of from
  first_from [] n t k = refl
  first_from (r ∷ rs) n t k = go (eqb r.number n) refl (λ e. first_from rs n t.1 (λ m h. k m (there r.number m n (numbers_of rs) e h)))
    where
      go : (b : Bool) → eqb r.number n ≡ b → (eqb r.number n ≡ false → first_of rs d ≡ first_of (from n rs) d)
          → pick r.broken r.answer (first_of rs d) ≡ first_of (pick b (r ∷ rs) (from n rs)) d
      go true e ih = refl
      go false e ih = rw (t.0.kept.1 (k r.number (here r.number n (numbers_of rs) e))) (ih e)

  -- The answer is claimed, and where it stands for rule n every rule before n is kept.
  pub first_told : (rs : List (Rule A)) → Each (Told Keeps Breach number_of) rs → Breach d
      → ((m : ℕ) → earlier (numbers_of rs) m (number_of (first_of rs d)) ≡ true → Keeps m) × Breach (first_of rs d)
  unfolding first_of earlier
  first_told [] t w = (λ m e. clash e refl, w)
  first_told (r ∷ rs) t w = go r.broken refl (first_told rs t.1 w)
    where
      go : (b : Bool) → r.broken ≡ b → ((m : ℕ) → earlier (numbers_of rs) m (number_of (first_of rs d)) ≡ true → Keeps m) × Breach (first_of rs d)
          → ((m : ℕ) → earlier (numbers_of (r ∷ rs)) m (number_of (pick b r.answer (first_of rs d))) ≡ true
          → Keeps m) × Breach (pick b r.answer (first_of rs d))
      go true e ih = (λ m h. clash (sym (rw (t.0.number, eq-eqb r.number r.number refl)) ∙ h) refl, t.0.breach e)
      go false e ih = (λ m h. at m (eqb r.number (number_of (first_of rs d))) (eqb r.number m) refl h, ih.1)
        where
          at : (m : ℕ) (a b : Bool) → eqb r.number m ≡ b → (not a && (b || earlier (numbers_of rs) m (number_of (first_of rs d)))) ≡ true → Keeps m
          at m true b q h = clash h refl
          at m false true q h = rw (eqb-true r.number m q) at (t.0.kept.0 e)
          at m false false q h = ih.0 m h

pub all_kept : (cs : List Claim) → AllKept cs → (m : ℕ) → KeptBy cs m
unfolding KeptBy
all_kept [] k m = tt
all_kept (c ∷ cs) k m = go (eqb c.number m) (all_kept cs k.1 m)
  where
    go : (b : Bool) → KeptBy cs m → pick_type b c.Kept (KeptBy cs m)
    go true rest = k.0
    go false rest = rest
