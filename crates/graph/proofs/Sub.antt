-- Laws of the definitions in specs/Sub.antt.
use Rattle.std.specs.Prelude.{◌≡◌, Bool, true, false, ◌⊎◌, ℕ, zero, suc, ◌+◌, ◌-◌, ◌≤◌, ◌<◌, max, eqb, ℤ, pos, negsuc, ◌-ℤ◌}
use Rattle.std.proofs.Common.{sym, ap, ap₂, ◌∙◌, inl, inr, add-zero, arith, lt-ltb, le-ltb, le-leb}
use Rattle.std.proofs.Math.IntN.{sub_ℕ}
use Rattle.std.specs.Int.Signed.{le_z}
use Rattle.std.proofs.lemmas.Bool.{lt-leb}
use Rattle.vocabulary.specs.Test.{pick}
use Rattle.vocabulary.proofs.Test.{lt_or_le}
use Rattle.graph.specs.Graph.{Graph, LinksInside}
use Rattle.graph.specs.Longest.{most, entry, rounds}
use Rattle.graph.specs.Soonest.{min_z, fewest, due, soonest}
use Rattle.graph.specs.Sub.{flip}

pub sub_ge : (a b : ℕ) → b ≤ a → sub_ℕ a b ≡ pos (a - b)
sub_ge a b l = rw (le-ltb a b l)

pub sub_lt : (a b : ℕ) → a < b → sub_ℕ a b ≡ negsuc (b - suc a)
sub_lt a b l = rw (lt-ltb a b l)

pub sub_back : (z d : ℕ) → d ≤ z → sub_ℕ z (z - d) ≡ pos d
sub_back z d l = sub_ge z (z - d) (omega arith) ∙ ap pos (let e : z - (z - d) ≡ d = omega arith in e)

pub sub_more : (z a c : ℕ) → sub_ℕ z a -ℤ pos c ≡ sub_ℕ z (a + c)
sub_more z a zero = go (lt_or_le z a)
  where
    go : (z < a) ⊎ (a ≤ z) → sub_ℕ z a -ℤ pos zero ≡ sub_ℕ z (a + zero)
    go (inl l) = rw (add-zero a, lt-ltb z a l) (sub_ge_zero (a - suc z))
      where
        sub_ge_zero : (n : ℕ) → negsuc n -ℤ pos zero ≡ negsuc n
        sub_ge_zero n = sub_lt 0 (suc n) (omega arith) ∙ ap negsuc (let e : suc n - suc 0 ≡ n = omega arith in e)
    go (inr l) = rw (add-zero a, le-ltb z a l) (ap pos (add-zero (z - a)))
sub_more z a (suc n) = go (lt_or_le z a) (lt_or_le z (a + suc n))
  where
    go : (z < a) ⊎ (a ≤ z) → (z < a + suc n) ⊎ (a + suc n ≤ z) → sub_ℕ z a -ℤ pos (suc n) ≡ sub_ℕ z (a + suc n)
    go (inl l) (inl m) = rw (lt-ltb z a l, lt-ltb z (a + suc n) m) (ap negsuc (let e : suc (a - suc z + n) ≡ a + suc n - suc z = omega arith in e))
    go (inl l) (inr m) = absurd (omega arith)
    go (inr l) (inl m) =
        rw (le-ltb z a l, lt-ltb z (a + suc n) m)
        (sub_lt (z - a) (suc n) (omega arith) ∙ ap negsuc (let e : suc n - suc (z - a) ≡ a + suc n - suc z = omega arith in e))
    go (inr l) (inr m) =
        rw (le-ltb z a l, le-ltb z (a + suc n) m)
        (sub_ge (z - a) (suc n) (omega arith) ∙ ap pos (let e : z - a - suc n ≡ z - (a + suc n) = omega arith in e))

-- the order is turned round
le_sub : (z a b : ℕ) → b ≤ a → le_z (sub_ℕ z a) (sub_ℕ z b) ≡ true
le_sub z a b l = go (lt_or_le z a) (lt_or_le z b)
  where
    go : (z < a) ⊎ (a ≤ z) → (z < b) ⊎ (b ≤ z) → le_z (sub_ℕ z a) (sub_ℕ z b) ≡ true
    go (inl p) (inl q) = rw (lt-ltb z a p, lt-ltb z b q) (le-leb (b - suc z) (a - suc z) (omega arith))
    go (inl p) (inr q) = rw (lt-ltb z a p, le-ltb z b q)
    go (inr p) (inl q) = absurd (omega arith)
    go (inr p) (inr q) = rw (le-ltb z a p, le-ltb z b q) (le-leb (z - a) (z - b) (omega arith))

lt_sub : (z a b : ℕ) → a < b → le_z (sub_ℕ z a) (sub_ℕ z b) ≡ false
lt_sub z a b l = go (lt_or_le z a) (lt_or_le z b)
  where
    go : (z < a) ⊎ (a ≤ z) → (z < b) ⊎ (b ≤ z) → le_z (sub_ℕ z a) (sub_ℕ z b) ≡ false
    go (inl p) (inl q) = rw (lt-ltb z a p, lt-ltb z b q) (lt-leb (b - suc z) (a - suc z) (omega arith))
    go (inl p) (inr q) = absurd (omega arith)
    go (inr p) (inl q) = rw (le-ltb z a p, lt-ltb z b q)
    go (inr p) (inr q) = rw (le-ltb z a p, le-ltb z b q) (lt-leb (z - a) (z - b) (omega arith))

min_sub : (z a b : ℕ) → min_z (sub_ℕ z a) (sub_ℕ z b) ≡ sub_ℕ z (max a b)
min_sub z a b = go (lt_or_le a b)
  where
    go : (a < b) ⊎ (b ≤ a) → min_z (sub_ℕ z a) (sub_ℕ z b) ≡ sub_ℕ z (max a b)
    go (inl l) = ap (λ (t : Bool). pick t (sub_ℕ z a) (sub_ℕ z b)) (lt_sub z a b l) ∙ ap (sub_ℕ z) (let e : b ≡ max a b = omega arith in e)
    go (inr l) = ap (λ (t : Bool). pick t (sub_ℕ z a) (sub_ℕ z b)) (le_sub z a b l) ∙ ap (sub_ℕ z) (let e : a ≡ max a b = omega arith in e)

fewest_sub : (z : ℕ) (p : ℕ → Bool) (f : ℕ → ℤ) (h : ℕ → ℕ) (b : ℤ) (a n : ℕ) → b ≡ sub_ℕ z a → ((k : ℕ) → k < n → f k ≡ sub_ℕ z (h k))
    → fewest p f b n ≡ sub_ℕ z (most (λ k. pick (p k) (h k) 0) a n)
unfolding fewest most
fewest_sub z p f h b a zero eb e = eb
fewest_sub z p f h b a (suc n) eb e = go (p n) (fewest_sub z p f h b a n eb (λ k l. e k (omega arith))) (e n (omega arith))
  where
    go : (q : Bool) → fewest p f b n ≡ sub_ℕ z (most (λ k. pick (p k) (h k) 0) a n) → f n ≡ sub_ℕ z (h n)
        → pick q (min_z (fewest p f b n) (f n)) (fewest p f b n) ≡ sub_ℕ z (max (most (λ k. pick (p k) (h k) 0) a n) (pick q (h n) 0))
    go true r s = ap₂ min_z r s ∙ min_sub z (most (λ k. pick (p k) (h k) 0) a n) (h n)
    go false r s = r ∙ ap (sub_ℕ z) (let e : most (λ k. pick (p k) (h k) 0) a n ≡ max (most (λ k. pick (p k) (h k) 0) a n) 0 = omega arith in e)

-- ==== the adjusted deadline is z less the greatest of z less the own deadline and of what successors bring
pub soonest_sub : (g : Graph) (d c : ℕ → ℕ) (z : ℕ) → LinksInside g → ((x : ℕ) → x < g.n → d x ≤ z) → (s x : ℕ) → x < g.n
    → soonest g d c s x ≡ sub_ℕ z (rounds (flip g) (λ y. z - d y) c s x)
unfolding soonest due rounds entry
soonest_sub g d c z i h zero x l = sym (sub_back z (d x) (h x l))
soonest_sub g d c z i h (suc s) x l =
    fewest_sub z (λ k. eqb (g.from k) x) (λ k. soonest g d c s (g.to k) -ℤ pos (c (g.to k)))
    (λ k. rounds (flip g) (λ y. z - d y) c s (g.to k) + c (g.to k)) (pos (d x)) (z - d x) g.e (sym (sub_back z (d x) (h x l)))
    (λ k lk.
    ap (λ (a : ℤ). a -ℤ pos (c (g.to k))) (soonest_sub g d c z i h s (g.to k) (i.ends k lk))
    ∙ sub_more z (rounds (flip g) (λ y. z - d y) c s (g.to k)) (c (g.to k)))
