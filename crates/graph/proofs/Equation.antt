-- Without a cycle the adjusted deadlines solve their equations in integers, and nothing else does.
use Rattle.std.specs.Prelude.{◌≡◌, refl, Bool, true, false, eqb, ℤ, pos, ◌-ℤ◌}
use Rattle.std.proofs.Math.Path.{sym, ap}
use Rattle.std.proofs.Common.{ap₂, ◌∙◌, arith, eqb-true}
use Prim.Native.Nat.{ℕ, zero, suc, ◌+◌, ◌-◌, ◌≤◌, ◌<◌}
use Rattle.std.proofs.Math.IntN.{sub_ℕ}
use Rattle.vocabulary.specs.Test.{pick}
use Rattle.graph.specs.Graph.{Graph, LinksInside}
use Rattle.graph.specs.Reach.{Free, rank}
use Rattle.graph.proofs.Reach.{rank_up, rank_low, free_by}
use Rattle.graph.specs.Longest.{most, rounds}
use Rattle.graph.proofs.Settle.{rounds_solve}
use Rattle.graph.proofs.Settle.{most_over}
use Rattle.graph.specs.Soonest.{min_z, fewest, due, soonest}
use Rattle.graph.specs.Sub.{flip}
use Rattle.graph.proofs.Sub.{soonest_sub}

-- links turned round make no cycle either
pub flip_free : (g : Graph) → LinksInside g → Free g → Free (flip g)
flip_free g i free = free_by (flip g) (λ x. g.n - rank g x) (λ k l. omega (arith, rank_up g i free k l, rank_low g (g.to k)))

fewest_same : (p : ℕ → Bool) (f h : ℕ → ℤ) (b : ℤ) (n : ℕ) → ((k : ℕ) → k < n → p k ≡ true → f k ≡ h k) → fewest p f b n ≡ fewest p h b n
unfolding fewest
fewest_same p f h b zero e = refl
fewest_same p f h b (suc n) e = go (p n) refl (fewest_same p f h b n (λ k l. e k (omega arith)))
  where
    go : (q : Bool) → p n ≡ q → fewest p f b n ≡ fewest p h b n
        → pick q (min_z (fewest p f b n) (f n)) (fewest p f b n) ≡ pick q (min_z (fewest p h b n) (h n)) (fewest p h b n)
    go true a r = ap₂ min_z r (e n (omega arith) a)
    go false a r = r

due_same : (g : Graph) (d c : ℕ → ℕ) (u v : ℕ → ℤ) (x : ℕ) → ((k : ℕ) → k < g.e → g.from k ≡ x → u (g.to k) ≡ v (g.to k)) → due g d c u x ≡ due g d c v x
unfolding due
due_same g d c u v x h =
    fewest_same (λ k. eqb (g.from k) x) (λ k. u (g.to k) -ℤ pos (c (g.to k))) (λ k. v (g.to k) -ℤ pos (c (g.to k))) (pos (d x)) g.e
    (λ k l e. ap (λ (a : ℤ). a -ℤ pos (c (g.to k))) (h k l (eqb-true (g.from k) x e)))

module _ (g : Graph) (d c : ℕ → ℕ) (i : LinksInside g) (free : Free g) where
  -- ==== n rounds solve the equations
  pub soonest_solves : (x : ℕ) → x < g.n → soonest g d c g.n x ≡ due g d c (soonest g d c g.n) x
  unfolding soonest rounds
  soonest_solves x l =
      let z : ℕ = most d 0 g.n in
      let hz : (y : ℕ) → y < g.n → d y ≤ z = λ y ly. most_over d 0 g.n y ly in
      soonest_sub g d c z i hz g.n x l
      ∙ ap (sub_ℕ z) (rounds_solve (flip g) (λ y. z - d y) c (record { starts = i.ends; ends = i.starts }) (flip_free g i free) x l)
      ∙ sym (soonest_sub g d c z i hz (suc g.n) x l)

  same : (u v : ℕ → ℤ) → ((x : ℕ) → x < g.n → u x ≡ due g d c u x) → ((x : ℕ) → x < g.n → v x ≡ due g d c v x) → (s x : ℕ) → x < g.n
      → g.n < rank g x + s → u x ≡ v x
  same u v hu hv zero x l r = absurd (omega (arith, rank_low g x))
  same u v hu hv (suc s) x l r =
      hu x l
      ∙ due_same g d c u v x (λ k lk e. same u v hu hv s (g.to k) (i.ends k lk) (omega (arith, rank_up g i free k lk, ap (rank g) e)))
      ∙ sym (hv x l)

  -- ==== and nothing else does
  pub soonest_only : (u v : ℕ → ℤ) → ((x : ℕ) → x < g.n → u x ≡ due g d c u x) → ((x : ℕ) → x < g.n → v x ≡ due g d c v x) → (x : ℕ) → x < g.n → u x ≡ v x
  soonest_only u v hu hv x l = same u v hu hv (suc g.n) x l (omega arith)
