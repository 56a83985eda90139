-- Without a cycle the equations have one solution: n rounds.
use Rattle.std.specs.Prelude.{◌≡◌, refl, true, false, ◌⊎◌, eqb}
use Rattle.std.proofs.Math.Path.{sym, ap}
use Rattle.std.proofs.Common.{ap₂, ◌∙◌, inl, inr, ⊎_elim, eq-or-lt_of_le, le_of_suc-le-suc, arith, eqb-true, eq-eqb}
use Prim.Native.Nat.{ℕ, zero, suc, ◌+◌, ◌*◌, ◌≤◌, ◌<◌, max}
use Rattle.vocabulary.proofs.Test.{decide}
use Rattle.graph.specs.Graph.{Graph, LinksInside}
use Rattle.graph.specs.Settle.{Over}
use Rattle.graph.specs.Reach.{Free, rank}
use Rattle.graph.proofs.Reach.{rank_low, rank_up}
use Rattle.graph.specs.Longest.{most, brings, entry, Solves, rounds}

-- ---- the greatest
pub most_base : (f : ℕ → ℕ) (b n : ℕ) → b ≤ most f b n
unfolding most
most_base f b zero = omega arith
most_base f b (suc n) = omega (arith, most_base f b n)

pub most_over : (f : ℕ → ℕ) (b n k : ℕ) → k < n → f k ≤ most f b n
unfolding most
most_over f b zero k l = absurd (omega arith)
most_over f b (suc n) k l = ⊎_elim (λ e. omega (arith, ap f e)) (λ h. omega (arith, most_over f b n k h)) (eq-or-lt_of_le (le_of_suc-le-suc l))

pub most_under : (f : ℕ → ℕ) (b n u : ℕ) → b ≤ u → ((k : ℕ) → k < n → f k ≤ u) → most f b n ≤ u
unfolding most
most_under f b zero u h hs = h
most_under f b (suc n) u h hs = omega (arith, most_under f b n u h (λ k l. hs k (omega arith)), hs n (omega arith))

most_same : (f f' : ℕ → ℕ) (b n : ℕ) → ((k : ℕ) → k < n → f k ≡ f' k) → most f b n ≡ most f' b n
unfolding most
most_same f f' b zero h = refl
most_same f f' b (suc n) h = ap₂ max (most_same f f' b n (λ k l. h k (omega arith))) (h n (omega arith))

module _ (g : Graph) (b w : ℕ → ℕ) where
  pub entry_base : (v : ℕ → ℕ) (x : ℕ) → b x ≤ entry g b w v x
  unfolding entry
  entry_base v x = most_base (brings g w v x) (b x) g.e

  pub entry_link : (v : ℕ → ℕ) (k : ℕ) → k < g.e → v (g.from k) + w (g.from k) ≤ entry g b w v (g.to k)
  unfolding entry
  entry_link v k l =
      let o = most_over (brings g w v (g.to k)) (b (g.to k)) g.e k l in
      rw (eq-eqb (g.to k) (g.to k) refl) at o

  pub entry_under : (v : ℕ → ℕ) (x u : ℕ) → b x ≤ u → ((k : ℕ) → k < g.e → g.to k ≡ x → v (g.from k) + w (g.from k) ≤ u) → entry g b w v x ≤ u
  unfolding entry
  entry_under v x u h hs = most_under (brings g w v x) (b x) g.e u h (λ k l. go k l (decide (eqb (g.to k) x)))
    where
      go : (k : ℕ) → k < g.e → (eqb (g.to k) x ≡ true) ⊎ (eqb (g.to k) x ≡ false) → brings g w v x k ≤ u
      go k l (inl e) = rw e (hs k l (eqb-true (g.to k) x e))
      go k l (inr e) = rw e (omega arith)

  pub entry_same : (v v' : ℕ → ℕ) (x : ℕ) → ((k : ℕ) → k < g.e → g.to k ≡ x → v (g.from k) ≡ v' (g.from k)) → entry g b w v x ≡ entry g b w v' x
  unfolding entry
  entry_same v v' x h = most_same (brings g w v x) (brings g w v' x) (b x) g.e (λ k l. go k l (decide (eqb (g.to k) x)))
    where
      go : (k : ℕ) → k < g.e → (eqb (g.to k) x ≡ true) ⊎ (eqb (g.to k) x ≡ false) → brings g w v x k ≡ brings g w v' x k
      go k l (inl e) = rw (e, h k l (eqb-true (g.to k) x e))
      go k l (inr e) = rw e

  pub rounds_under : LinksInside g → (v : ℕ → ℕ) → Over g b w v → (s x : ℕ) → x < g.n → rounds g b w s x ≤ v x
  unfolding rounds
  rounds_under i v o zero x l = o.own x l
  rounds_under i v o (suc s) x l =
      entry_under (rounds g b w s) x (v x) (o.own x l)
      (λ k lk t. omega (arith, rounds_under i v o s (g.from k) (i.starts k lk), o.link k lk, ap v t))

  -- a round adds at most one weight
  pub rounds_bound : LinksInside g → (B W : ℕ) → ((x : ℕ) → x < g.n → b x ≤ B) → ((x : ℕ) → x < g.n → w x ≤ W) → (s x : ℕ) → x < g.n
      → rounds g b w s x ≤ B + s * W
  unfolding rounds
  rounds_bound i B W hb hw zero x l = omega (arith, hb x l)
  rounds_bound i B W hb hw (suc s) x l =
      entry_under (rounds g b w s) x (B + suc s * W) (omega (arith, hb x l))
      (λ k lk t. omega (arith, rounds_bound i B W hb hw s (g.from k) (i.starts k lk), hw (g.from k) (i.starts k lk)))

  pub solves_over : LinksInside g → (v : ℕ → ℕ) → Solves g b w v → Over g b w v
  solves_over i v h =
      record {
        own = λ x l. omega (arith, h x l, entry_base v x);
        link = λ k l. omega (arith, h (g.to k) (i.ends k l), entry_link v k l);
      }

  module _ (i : LinksInside g) (free : Free g) where
    steady : (s x : ℕ) → rank g x ≤ s → rounds g b w (suc s) x ≡ rounds g b w s x
    unfolding rounds
    steady zero x l =
        let under = entry_under (b) x (b x) (omega arith) (λ k lk t. absurd (omega (arith, rank_up g i free k lk, ap (rank g) t))) in
        omega (arith, under, entry_base (rounds g b w zero) x)
    steady (suc s) x l =
        entry_same (rounds g b w (suc s)) (rounds g b w s) x
        (λ k lk t. steady s (g.from k) (omega (arith, rank_up g i free k lk, ap (rank g) t)))

    -- ==== n rounds solve the equations
    pub rounds_solve : Solves g b w (rounds g b w g.n)
    unfolding rounds
    rounds_solve x l = sym (steady g.n x (rank_low g x))

    same : (u v : ℕ → ℕ) → Solves g b w u → Solves g b w v → (s x : ℕ) → x < g.n → rank g x < s → u x ≡ v x
    same u v hu hv zero x l r = absurd (omega arith)
    same u v hu hv (suc s) x l r =
        hu x l
        ∙ entry_same u v x (λ k lk t. same u v hu hv s (g.from k) (i.starts k lk) (omega (arith, rank_up g i free k lk, ap (rank g) t)))
        ∙ sym (hv x l)

    -- ==== and nothing else does
    pub only : (u v : ℕ → ℕ) → Solves g b w u → Solves g b w v → (x : ℕ) → x < g.n → u x ≡ v x
    only u v hu hv x l = same u v hu hv (suc (rank g x)) x l (omega arith)
