-- Rule 20 with one look at each slot: a word of the tasks seen in the row so far.
use mathlib.Core.Path.{◌≡◌, refl, sym, ap, ap₂, ◌∙◌}
use mathlib.Core.Bool.{Bool, true, false, ◌||◌, not}
use mathlib.Core.List.{List}
use mathlib.Core.Logic.{◌⊎◌, inl, inr, ⊎_elim}
use Prim.Native.Nat.{ℕ, ◌+◌, ◌-◌, ◌*◌, ◌^◌, ◌%◌, ◌<◌, ◌≤◌}
use native.Mathlib.Nat.{eq-or-lt_of_le}
use native.Mathlib.Omega.{arith}
use lib.Bits.{bit_or}
use lib.Dec.{eqb, ltb}
use borrow.Author.Tests.{eq-eqb, ne_eqb, eqb-true, lt-ltb, le-ltb}
use Rattle.vocabulary.proofs.Test.{clash, fails, both, lt_or_le, eq_or_ne}
use Rattle.vocabulary.specs.Least.{least, some}
use Rattle.vocabulary.proofs.Least.{some_yes, some_at, some_not, some_more, some_none, none}
use Rattle.vocabulary.specs.Bits.{has}
use Rattle.vocabulary.proofs.Bits.{has_none, set_word}
use Rattle.kinds.specs.Plans.{Plan, plan, slot, shows}
use Rattle.judge.specs.Rules.{twin, mated, clashes}
use Rattle.judge.specs.RowMarks.{Worded, marked, Added}

-- ---- a slot fits a word
pub row_few : (slots : List ℕ) (m h : ℕ) → Worded slots m h → (c q : ℕ) {v : ℕ} → v ≡ slot (plan slots m h) c q → v ≤ 64
unfolding slot
row_few slots m h w c q e = omega (arith, e, w.few (c % h * m + q))

-- ---- marks
-- x has the marks of the tasks that the first q processors show at time t.
pub record Marks (p : Plan) (t q x : ℕ) : Type 0 where
  pub each : (i : ℕ) → i < 64 → has x i ≡ some (shows p i t) q

marks_from : (p : Plan) (t : ℕ) → Marks p t 0 0
marks_from p t = record { each = λ i l. has_none i ∙ sym (some_none (shows p i t)) }

-- An idle processor adds none.
marks_idle : (p : Plan) (t q x x' : ℕ) → Marks p t q x → slot p t q ≡ 0 → x' ≡ x → Marks p t (q + 1) x'
unfolding shows
marks_idle p t q x x' m e r =
    record {
      each =
          λ i l. ap (λ (y : ℕ). has y i) r
          ∙ m.each i l
          ∙ sym
          (some_more (shows p i t) q
          ∙ ap (λ (b : Bool). some (shows p i t) q || b) (ne_eqb (slot p t q) (i + 1) (λ g. omega arith))
          ∙ or_false (some (shows p i t) q));
    }
  where
    or_false : (b : Bool) → (b || false) ≡ b
    or_false true = refl
    or_false false = refl

-- A processor that shows task v - 1 adds this one.
marks_task : (p : Plan) (t q x v x' : ℕ) → Marks p t q x → v ≡ slot p t q → (v ≡ 0 → ⊥) → v ≤ 64 → x' ≡ bit_or x (1 * 2 ^ (v - 1) % 2 ^ 64) → Marks p t (q + 1) x'
unfolding shows
marks_task p t q x v x' m e z l r =
    record {
      each = λ i h. ap (λ (y : ℕ). has y i) r ∙ set_word x (v - 1) i (omega arith) ∙ ap₂ ◌||◌ (m.each i h) (same i) ∙ sym (some_more (shows p i t) q);
    }
  where
    same : (i : ℕ) → eqb i (v - 1) ≡ eqb (slot p t q) (i + 1)
    same i = go (eq_or_ne i (v - 1))
      where
        go : (i ≡ v - 1) ⊎ (i ≡ v - 1 → ⊥) → eqb i (v - 1) ≡ eqb (slot p t q) (i + 1)
        go (inl g) = eq-eqb i (v - 1) g ∙ sym (eq-eqb (slot p t q) (i + 1) (omega arith))
        go (inr g) = ne_eqb i (v - 1) g ∙ sym (ne_eqb (slot p t q) (i + 1) (λ k. g (omega arith)))

-- ---- rows
-- The first q processors of tick c are seen, and no two of them show one task.
pub record Rowing (p : Plan) (c q x : ℕ) : Type 0 where
  pub within : q ≤ p.processors
  pub marks : Marks p c q x
  pub clean : (a b : ℕ) → a < b → b < q → twin p c a b ≡ false

pub row_from_lem : (p : Plan) (c : ℕ) → Rowing p c 0 0
row_from_lem p c = record { within = omega arith; marks = marks_from p c; clean = λ a b l k. absurd (omega arith) }

module _ (p : Plan) (c q x v : ℕ) (w : Rowing p c q x) (l : q < p.processors) (ev : v ≡ slot p c q) (few : v ≤ 64) where
  -- The mark of v tells whether a processor below q shows it.
  seen : (v ≡ 0 → ⊥) → marked x v ≡ some (shows p (v - 1) c) q
  unfolding marked
  seen z = rw (ne_eqb v 0 z) (w.marks.each (v - 1) (omega (arith, z)))

  pub row_hit : marked x v ≡ true → clashes p c ≡ true
  unfolding marked clashes mated twin shows
  row_hit e =
      let z : (v ≡ 0 → ⊥) = λ g. clash (both {a = not (eqb v 0)} e).0 (ap not (eq-eqb v 0 g)) in
      let s = some_at (shows p (v - 1) c) q (sym (seen z) ∙ e) in
      let a : ℕ = least (shows p (v - 1) c) q in
      let g : slot p c a ≡ v = eqb-true _ _ s.1 ∙ omega (arith, z) in
      some_yes (mated p c) p.processors a (omega (arith, s.0))
      (some_yes (twin p c a) p.processors q l (rw (lt-ltb a q s.0, ne_eqb (slot p c a) 0 (λ n. z (omega arith)), eq-eqb (slot p c q) (slot p c a) (omega arith))))

  pub row_on_lem : (x' : ℕ) → marked x v ≡ false → Added x v x' → Rowing p c (q + 1) x'
  unfolding twin shows
  row_on_lem x' e a =
      record {
        within = omega arith;
        marks = ⊎_elim (λ z. marks_idle p c q x x' w.marks (sym ev ∙ z) (a.idle z)) (λ z. marks_task p c q x v x' w.marks ev z few (a.task z)) (eq_or_ne v 0);
        clean = λ i j k n. ⊎_elim (λ g. rw g (new i (omega arith))) (λ g. w.clean i j k g) (eq-or-lt_of_le (let g : j ≤ q = omega arith in g));
      }
    where
      new : (i : ℕ) → i < q → twin p c i q ≡ false
      new i k = fails (λ t.
          let t₁ = both {a = ltb i q} t in
          let t₂ = both {a = not (eqb (slot p c i) 0)} t₁.1 in
          let g : slot p c q ≡ slot p c i = eqb-true _ _ t₂.1 in
          let z : (v ≡ 0 → ⊥) = λ n. clash t₂.0 (ap not (eq-eqb (slot p c i) 0 (omega arith))) in
          clash (eq-eqb (slot p c i) (v - 1 + 1) (omega (arith, z))) (some_not (shows p (v - 1) c) q (sym (seen z) ∙ e) i k))

not_above : (p : Plan) (c a b : ℕ) → b ≤ a → twin p c a b ≡ false
unfolding twin
not_above p c a b h = rw (le-ltb a b h)

pub row_end : (p : Plan) (c q x : ℕ) → Rowing p c q x → p.processors ≤ q → clashes p c ≡ false
unfolding clashes mated
row_end p c q x w l =
    none (mated p c) p.processors
    (λ a la. none (twin p c a) p.processors (λ b lb. ⊎_elim (λ h. w.clean a b h (omega arith)) (λ h. not_above p c a b h) (lt_or_le a b)))
