-- Laws of the definitions in specs/Reach.antt.
use Rattle.std.specs.Prelude.{◌≡◌, Bool, ◌&&◌, ◌||◌, not, ◌↔◌, ◌⊎◌, eqb}
use Rattle.std.proofs.Math.Path.{refl}
use Rattle.std.proofs.Common.{ap, ◌∙◌, eq-or-lt_of_le, le_of_suc-le-suc, arith}
use Rattle.std.proofs.Math.Bool.{true, false}
use Rattle.std.proofs.Math.Logic.{inl, inr, ⊎_elim}
use Prim.Native.Nat.{ℕ, zero, suc, ◌+◌, ◌≤◌, ◌<◌}
use borrow.Author.Tests.{eqb-true, eq-eqb, not-true}
use Rattle.vocabulary.specs.Test.{bit}
use Rattle.vocabulary.proofs.Test.{clash, fails, both, decide, bit_mono}
use Rattle.vocabulary.specs.Count.{count}
use Rattle.vocabulary.proofs.Count.{count_le, count_mono}
use Rattle.vocabulary.specs.Least.{least, some}
use Rattle.vocabulary.proofs.Least.{some_yes, some_not, some_at}
use Rattle.graph.specs.Graph.{Graph, LinksInside, Way, one, more, reach, loops}
use Rattle.graph.specs.Reach.{rank, Free}

pub either : {a b : Bool} → (a || b) ≡ true → (a ≡ true) ⊎ (b ≡ true)
either {a} {b} e = go a b e
  where
    go : (x y : Bool) → (x || y) ≡ true → (x ≡ true) ⊎ (y ≡ true)
    go true y e = inl refl
    go false y e = inr e

-- a test that passes strictly more often
pub count_strict : (f g : ℕ → Bool) (n k : ℕ) → k < n → f k ≡ false → g k ≡ true → ((i : ℕ) → f i ≡ true → g i ≡ true) → count f 0 n < count g 0 n
unfolding count
count_strict f g zero k l p q h = absurd (omega arith)
count_strict f g (suc n) k l p q h =
    ⊎_elim (λ e.
    let z : 0 + n ≡ k = omega arith in
    omega (arith, count_mono f g 0 n (λ i l. h (0 + i)), ap bit (ap f z ∙ p), ap bit (ap g z ∙ q)))
    (λ m. omega (arith, count_strict f g n k m p q h, bit_mono (f (0 + n)) (g (0 + n)) (h (0 + n))))
    (eq-or-lt_of_le (le_of_suc-le-suc l))

module _ (g : Graph) (x : ℕ) where
  -- the last link of a way of at most s + 1 links to y
  abbrev ends_in : ℕ → ℕ → ℕ → Bool
  ends_in s y k = eqb (g.to k) y && (eqb (g.from k) x || reach g x s (g.from k))

  pub record Last (s y : ℕ) : Type 0 where
    pub link : ℕ
    pub low : link < g.e
    pub there : g.to link ≡ y
    pub came : (g.from link ≡ x) ⊎ (reach g x s (g.from link) ≡ true)

  pub last_link : (s y : ℕ) → reach g x (suc s) y ≡ true → Last s y
  unfolding reach
  last_link s y e =
      let w = some_at (ends_in s y) g.e e in
      let k : ℕ = least (ends_in s y) g.e in
      let a = both w.1 in
      record { link = k; low = w.0; there = eqb-true (g.to k) y a.0; came = ⊎_elim (λ p. inl (eqb-true (g.from k) x p)) inr (either a.1) }

  pub reach_by : (s y k : ℕ) → k < g.e → g.to k ≡ y → (g.from k ≡ x) ⊎ (reach g x s (g.from k) ≡ true) → reach g x (suc s) y ≡ true
  unfolding reach
  reach_by s y k l t (inl f) = some_yes (ends_in s y) g.e k l (rw (eq-eqb (g.to k) y t, eq-eqb (g.from k) x f))
  reach_by s y k l t (inr r) = some_yes (ends_in s y) g.e k l (rw (eq-eqb (g.to k) y t, r) (or_true (eqb (g.from k) x)))
    where
      or_true : (b : Bool) → (b || true) ≡ true
      or_true true = refl
      or_true false = refl

  -- sound
  pub reach_way : (s y : ℕ) → reach g x s y ≡ true → Way g x y
  unfolding reach
  reach_way zero y e = clash e refl
  reach_way (suc s) y e =
      let w = last_link s y e in
      ⊎_elim (λ f. one w.link w.low f w.there) (λ r. more (reach_way s (g.from w.link) r) w.link w.low refl w.there) w.came

  pub reach_up : (s y : ℕ) → reach g x s y ≡ true → reach g x (suc s) y ≡ true
  unfolding reach
  reach_up zero y e = clash e refl
  reach_up (suc s) y e =
      let w = last_link s y e in
      reach_by (suc s) y w.link w.low w.there (⊎_elim inl (λ r. inr (reach_up s (g.from w.link) r)) w.came)

  -- complete: each step that finds a job more makes the count grow, so n steps find all
  abbrev Still : ℕ → Type 0
  Still s = (y : ℕ) → reach g x (suc s) y ≡ true → reach g x s y ≡ true

  still_on : (s : ℕ) → Still s → Still (suc s)
  still_on s h y e =
      let w = last_link (suc s) y e in
      reach_by s y w.link w.low w.there (⊎_elim inl (λ r. inr (h (g.from w.link) r)) w.came)

  module _ (i : LinksInside g) where
    abbrev new : ℕ → ℕ → Bool
    new s y = reach g x (suc s) y && not (reach g x s y)

    grows : (s c : ℕ) → c ≤ count (reach g x s) 0 g.n → Still s ⊎ (suc c ≤ count (reach g x (suc s)) 0 g.n)
    grows s c h = go (decide (some (new s) g.n))
      where
        go : (some (new s) g.n ≡ true) ⊎ (some (new s) g.n ≡ false) → Still s ⊎ (suc c ≤ count (reach g x (suc s)) 0 g.n)
        go (inl e) =
            let w = some_at (new s) g.n e in
            let a = both w.1 in
            inr (omega (arith, count_strict (reach g x s) (reach g x (suc s)) g.n (least (new s) g.n) w.0 (not-true _ a.1) a.0 (reach_up s)))
        go (inr e) = inl (λ y r. old y r (decide (reach g x s y)))
          where
            old : (y : ℕ) → reach g x (suc s) y ≡ true → (reach g x s y ≡ true) ⊎ (reach g x s y ≡ false) → reach g x s y ≡ true
            old y r (inl p) = p
            old y r (inr p) =
                let w = last_link s y r in
                let l : y < g.n = omega (arith, w.there, i.ends w.link w.low) in
                clash (rw (r, p)) (some_not (new s) g.n e y l)

    sated : (s : ℕ) → Still s ⊎ (suc s ≤ count (reach g x (suc s)) 0 g.n)
    sated zero = grows zero zero (omega arith)
    sated (suc s) = ⊎_elim (λ h. inl (still_on s h)) (grows (suc s) (suc s)) (sated s)

    pub enough : Still g.n
    enough = ⊎_elim (λ h. h) (λ l. absurd (omega (arith, count_le (reach g x (suc g.n)) 0 g.n))) (sated g.n)

    pub way_reach : {y : ℕ} → Way g x y → reach g x g.n y ≡ true
    way_reach {y} (one k l f t) = enough y (reach_by g.n y k l t (inl f))
    way_reach {y} (more w k l f t) = enough y (reach_by g.n y k l t (inr (ap (reach g x g.n) f ∙ way_reach w)))

    -- ==== job x lies on a cycle: a way of at least one link leads from it to itself
    pub loops_iff : (loops g x ≡ true) ↔ Way g x x
    unfolding loops
    loops_iff = (reach_way g.n x, way_reach)

pub rank_low : (g : Graph) (y : ℕ) → rank g y ≤ g.n
rank_low g y = count_le (λ x. reach g x g.n y) 0 g.n

pub rank_up : (g : Graph) → LinksInside g → Free g → (k : ℕ) → k < g.e → rank g (g.from k) < rank g (g.to k)
unfolding loops
rank_up g i h k l =
    let a : ℕ = g.from k in
    count_strict (λ x. reach g x g.n a) (λ x. reach g x g.n (g.to k)) g.n a (i.starts k l) (h a (i.starts k l))
    (way_reach g a i (one k l refl refl))
    (λ x r. way_reach g x i (more (reach_way g x g.n a r) k l refl refl))

-- a number that grows along each link shows that there is no cycle
pub way_grows : (g : Graph) (v : ℕ → ℕ) → ((k : ℕ) → k < g.e → v (g.from k) < v (g.to k)) → {x y : ℕ} → Way g x y → v x < v y
way_grows g v h (one k l f t) = omega (arith, h k l, ap v f, ap v t)
way_grows g v h (more w k l f t) = omega (arith, way_grows g v h w, h k l, ap v f, ap v t)

pub free_by : (g : Graph) (v : ℕ → ℕ) → ((k : ℕ) → k < g.e → v (g.from k) < v (g.to k)) → Free g
unfolding loops
free_by g v h x l = fails (λ e. omega (arith, way_grows g v h (reach_way g x g.n x e)))
