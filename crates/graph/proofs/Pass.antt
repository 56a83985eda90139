-- Laws of the definitions in specs/Pass.antt.
use Rattle.std.specs.Prelude.{◌≡◌, refl, Bool, true, false, List, ◌⊎◌, ℕ, zero, suc, ◌+◌, ◌*◌, ◌≤◌, ◌<◌, min, length, set}
use Rattle.std.proofs.Common.{sym, ap, ◌∙◌, inl, inr, ⊎_elim, add-one, arith, length-set, get_or-set_same, get_or-set_other}
use Rattle.vocabulary.proofs.Test.{clash, lt_or_le, eq_or_ne}
use Rattle.graph.specs.Graph.{Graph, LinksInside, graph_of}
use Rattle.graph.specs.Reach.{Free}
use Rattle.graph.specs.Longest.{entry, rounds}
use Rattle.graph.proofs.Settle.{rounds_solve}
use Rattle.graph.proofs.Settle.{entry_under, rounds_bound, solves_over}
use Rattle.graph.specs.Pass.{limit, at, Lined, Raised, turn, PassingLinks, Passed, Settling, Settled}

pub lined_inside : (f t w v : List ℕ) → Lined f t w v → LinksInside (graph_of f t (length v))
lined_inside f t w v l = record { starts = l.starts; ends = l.ends }

pub raised : (w : List ℕ) (a b : ℕ) (v : List ℕ) (u : ℕ) → u ≡ min (at v a + at w a) limit → at v b < u → b < length v → Raised w a b v (set v b u) true
raised w a b v u e l lb =
    record {
      long = length-set v b u;
      grow = λ x. ⊎_elim (λ q. omega (arith, here x q, ap (at v) q)) (λ q. omega (arith, there x q)) (eq_or_ne x b);
      got = omega (arith, here b refl);
      low = λ x h. ⊎_elim (λ q. omega (arith, here x q)) (λ q. omega (arith, there x q)) (eq_or_ne x b);
      under = λ s ha hs x h. ⊎_elim (λ q. omega (arith, here x q, ap s q)) (λ q. omega (arith, there x q)) (eq_or_ne x b);
      still = λ p. clash refl p;
    }
  where
    here : (x : ℕ) → x ≡ b → at (set v b u) x ≡ u
    here x q = ap (at (set v b u)) q ∙ get_or-set_same v b u 0 lb

    there : (x : ℕ) → (x ≡ b → ⊥) → at (set v b u) x ≡ at v x
    there x q = get_or-set_other v b x u 0 q

pub not_raised : (w : List ℕ) (a b : ℕ) (v : List ℕ) (u : ℕ) → u ≡ min (at v a + at w a) limit → u ≤ at v b → Raised w a b v v false
not_raised w a b v u e l =
    record { long = refl; grow = λ x. omega arith; got = omega arith; low = λ x h. h; under = λ s ha hs x h. h; still = λ p. refl }

pub turn_low : (back : Bool) (n j : ℕ) → j < n → turn back n j < n
turn_low true n j l = omega arith
turn_low false n j l = l

turn_back : (back : Bool) (n j : ℕ) → j < n → turn back n (turn back n j) ≡ j
turn_back true n j l = omega arith
turn_back false n j l = refl

pub pass_from : (back : Bool) (f t w v : List ℕ) → Lined f t w v → PassingLinks back f t w v v 0 false
pass_from back f t w v l =
    record {
      within = omega arith;
      long = refl;
      low = l.low;
      grow = λ x. omega arith;
      got = λ j m h. absurd (omega arith);
      under = λ s hs h. h;
      still = λ p. refl;
    }

-- a turn, at link i: r' is whether anything has changed by now
pub pass_on : (back : Bool) (f t w v u u' : List ℕ) (k i : ℕ) (r c r' : Bool) → Lined f t w v → PassingLinks back f t w v u k r → k < length f
    → i ≡ turn back (length f) k → Raised w (at f i) (at t i) u u' c → (r' ≡ false → (r ≡ false) × (c ≡ false)) → PassingLinks back f t w v u' (k + 1) r'
pass_on back f t w v u u' k i r c r' l p lk ei q h =
    record {
      within = omega arith;
      long = q.long ∙ p.long;
      low = λ x lx. q.low x (p.low x lx);
      grow = λ x. omega (arith, p.grow x, q.grow x);
      got = λ j lj m. got j lj m (lt_or_le (turn back (length f) j) k);
      under = λ s hs hv x lx. q.under s (p.under s hs hv (at f i) (l.starts i li)) (hs i li) x (p.under s hs hv x lx);
      still = λ e. let z = h e in q.still z.1 ∙ p.still z.0;
    }
  where
    li : i < length f
    li = omega (arith, ei, turn_low back (length f) k lk)

    got : (j : ℕ) → j < length f → turn back (length f) j < k + 1 → (turn back (length f) j < k) ⊎ (k ≤ turn back (length f) j)
        → min (at v (at f j) + at w (at f j)) limit ≤ at u' (at t j)
    got j lj m (inl g) = omega (arith, p.got j lj g, q.grow (at t j))
    got j lj m (inr g) =
        let here : turn back (length f) j ≡ k = omega arith in
        let e : j ≡ i = sym (turn_back back (length f) j lj) ∙ ap (turn back (length f)) here ∙ sym ei in
        rw e (omega (arith, q.got, p.grow (at f i)))

-- every link is passed
pub pass_all : (back : Bool) (f t w v u : List ℕ) (r : Bool) → Passed back f t w v u r → (j : ℕ) → j < length f
    → min (at v (at f j) + at w (at f j)) limit ≤ at u (at t j)
pass_all back f t w v u r p j l = p.got j l (turn_low back (length f) j l)

pub settle_from : (f t w v : List ℕ) → Lined f t w v → Settling f t w v v 0
unfolding rounds
settle_from f t w v l =
    record { long = refl; low = l.low; grow = λ x. omega arith; reached = λ x h. omega arith; under = λ z o. o.own }

-- one round of the equations is passed by a pass
step : (f t w v u u' : List ℕ) (y : ℕ → ℕ) → Lined f t w v → ((x : ℕ) → x < length v → min (y x) limit ≤ at u x) → ((x : ℕ) → at v x ≤ at u' x)
    → ((j : ℕ) → j < length f → min (at u (at f j) + at w (at f j)) limit ≤ at u' (at t j)) → (x : ℕ) → x < length v
    → min (entry (graph_of f t (length v)) (at v) (at w) y x) limit ≤ at u' x
step f t w v u u' y l hy grow got x lx = go (lt_or_le (at u' x) limit)
  where
    go : (at u' x < limit) ⊎ (limit ≤ at u' x) → min (entry (graph_of f t (length v)) (at v) (at w) y x) limit ≤ at u' x
    go (inl h) =
        omega (
          arith,
          entry_under (graph_of f t (length v)) (at v) (at w) y x (at u' x) (grow x)
              (λ k lk e. omega (arith, got k lk, hy (at f k) (l.starts k lk), ap (at u') e)),
        )
    go (inr h) = omega arith

pub settle_on : (back : Bool) (f t w v u u' : List ℕ) (s : ℕ) (r : Bool) → Lined f t w v → Settling f t w v u s → Passed back f t w u u' r
    → Settling f t w v u' (s + 1)
unfolding rounds
settle_on back f t w v u u' s r l p q =
    record {
      long = q.long ∙ p.long;
      low = λ x h. q.low x (omega (arith, p.long));
      grow = up;
      reached = rw add-one (step f t w v u u' (rounds (graph_of f t (length v)) (at v) (at w) s) l p.reached up (pass_all back f t w u u' r q));
      under = λ z o x h. q.under z o.link (λ y ly. p.under z o y (omega (arith, p.long))) x (omega (arith, p.long));
    }
  where
    up : (x : ℕ) → at v x ≤ at u' x
    up x = omega (arith, p.grow x, q.grow x)

-- a pass that changes nothing has passed every round
pub settle_still : (back : Bool) (f t w v u u' : List ℕ) (s : ℕ) (r : Bool) → Lined f t w v → Settling f t w v u s → Passed back f t w u u' r → r ≡ false
    → Settled f t w v u'
unfolding rounds
settle_still back f t w v u u' s r l p q hf = let e = q.still hf in rw e
    (record { long = p.long; low = p.low; grow = p.grow; reached = all (length v); under = p.under })
  where
    got : (j : ℕ) → j < length f → min (at u (at f j) + at w (at f j)) limit ≤ at u (at t j)
    got = let e = q.still hf in rw e at (pass_all back f t w u u' r q)

    all : (k x : ℕ) → x < length v → min (rounds (graph_of f t (length v)) (at v) (at w) k x) limit ≤ at u x
    all zero x h = omega (arith, p.grow x)
    all (suc k) x h = step f t w v u u (rounds (graph_of f t (length v)) (at v) (at w) k) l (all k) p.grow got x h

-- ==== without a cycle the numbers are the solution
pub settled_free : (f t w v u : List ℕ) (B W : ℕ) → Lined f t w v → Settled f t w v u → Free (graph_of f t (length v))
    → ((x : ℕ) → x < length v → at v x ≤ B) → ((x : ℕ) → x < length v → at w x ≤ W) → B + length v * W ≤ limit → (x : ℕ) → x < length v
    → at u x ≡ rounds (graph_of f t (length v)) (at v) (at w) (length v) x
settled_free f t w v u B W l p free hb hw small x h =
    let g : Graph = graph_of f t (length v) in
    let i : LinksInside g = lined_inside f t w v l in
    omega (
      arith,
      p.reached x h,
      rounds_bound g (at v) (at w) i B W hb hw (length v) x h,
      p.under (rounds g (at v) (at w) (length v))
          (solves_over g (at v) (at w) i (rounds g (at v) (at w) (length v)) (rounds_solve g (at v) (at w) i free)) x h,
    )
