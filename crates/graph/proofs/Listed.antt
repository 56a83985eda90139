-- Laws of the definitions in specs/Listed.antt.
use Rattle.std.specs.Prelude.{◌≡◌, List, ◌⊎◌, ℕ, zero, suc, ◌+◌, ◌-◌, ◌*◌, ◌≤◌, ◌<◌, ltb, ℤ, pos, length}
use Rattle.std.proofs.Common.{sym, ap, ◌∙◌, subst, inl, inr, arith, lt-ltb, ltb-true}
use Rattle.std.proofs.Math.IntN.{sub_ℕ}
use Rattle.std.specs.Int.Signed.{lt_z}
use Rattle.vocabulary.proofs.Test.{lt_or_le, same_test}
use Rattle.graph.specs.Graph.{Graph, LinksInside, graph_of}
use Rattle.graph.specs.Reach.{Free}
use Rattle.graph.specs.Longest.{entry, rounds}
use Rattle.graph.proofs.Settle.{entry_base, entry_link, entry_under}
use Rattle.graph.specs.Soonest.{soonest}
use Rattle.graph.specs.Sub.{flip}
use Rattle.graph.proofs.Sub.{sub_ge, sub_lt, soonest_sub}
use Rattle.graph.proofs.Equation.{flip_free}
use Rattle.graph.specs.Pass.{at, Lined, Settled}
use Rattle.graph.proofs.Pass.{settled_free}
use Rattle.graph.specs.Cycle.{Between}
use Rattle.graph.proofs.Cycle.{between_inside, between_back, turned}
use Rattle.graph.specs.Listed.{Weighted}

-- own numbers and weights that are no greater on the jobs
pub rounds_le : (g : Graph) → LinksInside g → (b b' w w' : ℕ → ℕ) → ((x : ℕ) → x < g.n → b x ≤ b' x) → ((x : ℕ) → x < g.n → w x ≤ w' x) → (s x : ℕ)
    → x < g.n → rounds g b w s x ≤ rounds g b' w' s x
unfolding rounds
rounds_le g i b b' w w' hb hw zero x l = hb x l
rounds_le g i b b' w w' hb hw (suc s) x l =
    entry_under g b w (rounds g b w s) x (entry g b' w' (rounds g b' w' s) x)
    (omega (arith, hb x l, entry_base g b' w' (rounds g b' w' s) x))
    (λ k lk e.
    let y : ℕ = g.from k in
    omega (
      arith,
      entry_link g b' w' (rounds g b' w' s) k lk,
      ap (entry g b' w' (rounds g b' w' s)) e,
      rounds_le g i b b' w w' hb hw s y
          (i.starts k lk),
      hw y (i.starts k lk),
    ))

pub rounds_alike : (g : Graph) → LinksInside g → (b b' w w' : ℕ → ℕ) → ((x : ℕ) → x < g.n → b x ≡ b' x) → ((x : ℕ) → x < g.n → w x ≡ w' x) → (s x : ℕ)
    → x < g.n → rounds g b w s x ≡ rounds g b' w' s x
rounds_alike g i b b' w w' hb hw s x l =
    omega (
      arith,
      rounds_le g i b b' w w' (λ y ly. omega (arith, hb y ly)) (λ y ly. omega (arith, hw y ly)) s x l,
      rounds_le g i b' b w' w (λ y ly. omega (arith, hb y ly)) (λ y ly. omega (arith, hw y ly)) s x l,
    )

module _ (f t w v : List ℕ) (n : ℕ) (b c : ℕ → ℕ) (B W : ℕ) (l : Between f t n) (h : Weighted w v n b c B W) where
  pub weighted_lined : Lined f t w v
  weighted_lined =
      record {
        long = l.long;
        weights = h.weights ∙ sym h.numbers;
        starts = λ k lk. omega (arith, l.starts k lk, h.numbers);
        ends = λ k lk. omega (arith, l.ends k lk, h.numbers);
        light = λ x lx. let g : x < n = omega (arith, h.numbers) in omega (arith, h.weight x g, h.light x g, h.heavy);
        low = λ x lx. let g : x < n = omega (arith, h.numbers) in omega (arith, h.own x g, h.low x g, h.small);
      }

  -- ==== the numbers that rounds leave are the solution
  pub settled_rounds : (u : List ℕ) → Settled f t w v u → Free (graph_of f t n) → (x : ℕ) → x < n → at u x ≡ rounds (graph_of f t n) b c n x
  settled_rounds u p free x lx =
      let e : length v ≡ n = h.numbers in
      let less : (y : ℕ) → y < length v → y < n = λ y ly. omega arith in
      settled_free f t w v u B W weighted_lined p (subst (λ (m : ℕ). Free (graph_of f t m)) (sym e) free)
      (λ y ly. omega (arith, h.own y (less y ly), h.low y (less y ly)))
      (λ y ly. omega (arith, h.weight y (less y ly), h.light y (less y ly)))
      (omega (arith, ap (λ (m : ℕ). m * W) e, h.small))
      x (omega arith)
      ∙ ap (λ (m : ℕ). rounds (graph_of f t m) (at v) (at w) m x) e
      ∙ rounds_alike (graph_of f t n) (between_inside f t n l) (at v) b (at w) c h.own h.weight n x lx

-- ==== along the turned links: from z less the own deadlines, z less the adjusted ones
pub settled_soonest : (f t w v u : List ℕ) (n z W : ℕ) (d c : ℕ → ℕ) → Between f t n → Weighted w v n (λ x. z - d x) c z W → Settled t f w v u
    → Free (graph_of f t n) → ((x : ℕ) → x < n → d x ≤ z) → (x : ℕ) → x < n → sub_ℕ z (at u x) ≡ soonest (graph_of f t n) d c n x
settled_soonest f t w v u n z W d c l h p free low x lx =
    let g : Graph = graph_of f t n in
    let i : LinksInside g = between_inside f t n l in
    let e : graph_of t f n ≡ flip g = turned f t n l.long in
    ap (sub_ℕ z)
    (settled_rounds t f w v n (λ y. z - d y) c z W (between_back f t n l) h u p (subst (λ (k : Graph). Free k) (sym e) (flip_free g i free)) x lx
    ∙ ap (λ (k : Graph). rounds k (λ y. z - d y) c n x) e)
    ∙ sym (soonest_sub g d c z i low n x lx)

-- a time that is z less a number is below another where z is below both together
pub below_sub : (z a b : ℕ) → lt_z (sub_ℕ z b) (pos a) ≡ ltb z (a + b)
below_sub z a b = go (lt_or_le z b)
  where
    go : (z < b) ⊎ (b ≤ z) → lt_z (sub_ℕ z b) (pos a) ≡ ltb z (a + b)
    go (inl l) = ap (λ (y : ℤ). lt_z y (pos a)) (sub_lt z b l) ∙ sym (lt-ltb z (a + b) (omega arith))
    go (inr l) =
        ap (λ (y : ℤ). lt_z y (pos a)) (sub_ge z b l)
        ∙ same_test (λ e. lt-ltb z (a + b) (omega (arith, ltb-true (z - b) a e))) (λ e. lt-ltb (z - b) a (omega (arith, ltb-true z (a + b) e)))
