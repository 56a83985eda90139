-- Laws of the definitions in specs/Search.antt.
use Rattle.std.specs.Prelude.{◌≡◌, refl, false, List, ◌⊎◌, ℕ, ◌+◌, ◌≤◌, ◌<◌, eqb, length, set}
use Rattle.std.proofs.Common.{sym, ap, ◌∙◌, inl, inr, ⊎_elim, arith, length-set, get_or-set_same, get_or-set_other, eqb-true, eq-eqb, ne_eqb}
use Rattle.vocabulary.proofs.Test.{clash, fails, lt_or_le, eq_or_ne}
use Rattle.vocabulary.specs.Count.{count}
use Rattle.vocabulary.proofs.Count.{count_le, count_pos}
use Rattle.graph.specs.Graph.{Graph, LinksInside, graph_of, Way, one, more, loops}
use Rattle.graph.proofs.Reach.{loops_iff}
use Rattle.graph.proofs.Reach.{count_strict}
use Rattle.graph.specs.Pass.{at}
use Rattle.graph.specs.Search.{Threaded, InQueue, Came, Queued, Grown, Closed}

pub thread_from : (f heads nexts : List ℕ) → ((v : ℕ) → at heads v ≡ 0) → Threaded f heads nexts 0
thread_from f heads nexts z =
    record {
      head_low = λ v. omega (arith, z v);
      head_own = λ v i e. absurd (omega (arith, z v));
      head_all = λ v i l e. absurd (omega arith);
      next_low = λ e l. absurd (omega arith);
      next_own = λ e i l q. absurd (omega arith);
      next_all = λ e i l m q. absurd (omega arith);
    }

module _ (f heads nexts : List ℕ) (k a : ℕ) (p : Threaded f heads nexts k) (ea : at f k ≡ a) (la : a < length heads) (lk : k < length nexts) where
  abbrev heads' : List ℕ
  heads' = set heads a (k + 1)

  abbrev nexts' : List ℕ
  nexts' = set nexts k (at heads a)

  head_here : at (set heads a (k + 1)) a ≡ k + 1
  head_here = get_or-set_same heads a (k + 1) 0 la

  head_there : (v : ℕ) → (v ≡ a → ⊥) → at (set heads a (k + 1)) v ≡ at heads v
  head_there v h = get_or-set_other heads a v (k + 1) 0 h

  next_here : at (set nexts k (at heads a)) k ≡ at heads a
  next_here = get_or-set_same nexts k (at heads a) 0 lk

  next_there : (e : ℕ) → (e ≡ k → ⊥) → at (set nexts k (at heads a)) e ≡ at nexts e
  next_there e h = get_or-set_other nexts k e (at heads a) 0 h

  pub thread_on : Threaded f (set heads a (k + 1)) (set nexts k (at heads a)) (k + 1)
  thread_on =
      record {
        head_low = λ v. ⊎_elim (λ q. omega (arith, ap (at heads') q, head_here)) (λ q. omega (arith, head_there v q, p.head_low v)) (eq_or_ne v a);
        head_own = λ v i e. own v i e (eq_or_ne v a);
        head_all = λ v i l e. all v i l e (eq_or_ne v a);
        next_low =
            λ e l. ⊎_elim (λ q. omega (arith, ap (at nexts') q, next_here, p.head_low a))
            (λ q. omega (arith, next_there e q, p.next_low e (below e l q))) (eq_or_ne e k);
        next_own = λ e i l m. near e i l m (eq_or_ne e k);
        next_all = λ e i l m q. past e i l m q (eq_or_ne e k);
      }
    where
      below : (e : ℕ) → e < k + 1 → (e ≡ k → ⊥) → e < k
      below e l q = ⊎_elim (λ h. h) (λ h. absurd (q (omega arith))) (lt_or_le e k)

      own : (v i : ℕ) → at heads' v ≡ i + 1 → (v ≡ a) ⊎ (v ≡ a → ⊥) → at f i ≡ v
      own v i e (inl q) = let g : i ≡ k = omega (arith, ap (at heads') q, head_here) in ap (at f) g ∙ ea ∙ sym q
      own v i e (inr q) = p.head_own v i (sym (head_there v q) ∙ e)

      all : (v i : ℕ) → i < k + 1 → at f i ≡ v → (v ≡ a) ⊎ (v ≡ a → ⊥) → i < at heads' v
      all v i l e (inl q) = omega (arith, ap (at heads') q, head_here)
      all v i l e (inr q) = omega (arith, head_there v q, p.head_all v i (below i l (λ g. q (sym e ∙ ap (at f) g ∙ ea))) e)

      near : (e i : ℕ) → e < k + 1 → at nexts' e ≡ i + 1 → (e ≡ k) ⊎ (e ≡ k → ⊥) → at f i ≡ at f e
      near e i l m (inl q) = p.head_own a i (sym next_here ∙ sym (ap (at nexts') q) ∙ m) ∙ sym ea ∙ sym (ap (at f) q)
      near e i l m (inr q) = p.next_own e i (below e l q) (sym (next_there e q) ∙ m)

      past : (e i : ℕ) → e < k + 1 → i < e → at f i ≡ at f e → (e ≡ k) ⊎ (e ≡ k → ⊥) → i < at nexts' e
      past e i l m g (inl q) = omega (arith, ap (at nexts') q, next_here, p.head_all a i (omega arith) (g ∙ ap (at f) q ∙ ea))
      past e i l m g (inr q) = omega (arith, next_there e q, p.next_all e i (below e l q) m g)

pub queue_low : (g : Graph) (x : ℕ) (marks queue : List ℕ) (tail : ℕ) → Queued g x marks queue tail → tail ≤ g.n
queue_low g x marks queue tail p = omega (arith, p.room, count_le (λ y. eqb (at marks y) (x + 1)) 0 g.n)

-- x alone
pub queue_from : (g : Graph) (x : ℕ) (marks queue : List ℕ) → x < g.n → length marks ≡ g.n → length queue ≡ g.n → ((y : ℕ) → at marks y ≤ x)
    → Queued g x (set marks x (x + 1)) (set queue 0 x) 1
queue_from g x marks queue l em eq old =
    record {
      some = omega arith;
      long₁ = length-set marks x (x + 1) ∙ em;
      long₂ = length-set queue 0 x ∙ eq;
      room = omega (arith, count_pos (λ y. eqb (at marks' y) (x + 1)) g.n x l (eq-eqb (at marks' x) (x + 1) here));
      low = λ j h. omega (arith, first j h);
      came = λ j h. inl (first j h);
      placed = λ y e. place y e (eq_or_ne y x);
      recent = λ y. ⊎_elim (λ q. omega (arith, ap (at marks') q, here)) (λ q. omega (arith, there y q, old y)) (eq_or_ne y x);
    }
  where
    marks' : List ℕ
    marks' = set marks x (x + 1)

    here : at (set marks x (x + 1)) x ≡ x + 1
    here = get_or-set_same marks x (x + 1) 0 (omega arith)

    there : (y : ℕ) → (y ≡ x → ⊥) → at (set marks x (x + 1)) y ≡ at marks y
    there y q = get_or-set_other marks x y (x + 1) 0 q

    front : at (set queue 0 x) 0 ≡ x
    front = get_or-set_same queue 0 x 0 (omega arith)

    first : (j : ℕ) → j < 1 → at (set queue 0 x) j ≡ x
    first j h = let e : j ≡ 0 = omega arith in ap (at (set queue 0 x)) e ∙ front

    place : (y : ℕ) → at (set marks x (x + 1)) y ≡ x + 1 → (y ≡ x) ⊎ (y ≡ x → ⊥) → InQueue (set queue 0 x) 1 y
    place y e (inl q) = record { place = 0; low = omega arith; is = front ∙ sym q }
    place y e (inr q) = absurd (omega (arith, there y q, old y))

pub grown_none : (x : ℕ) (marks queue : List ℕ) (tail : ℕ) → Grown x marks queue tail marks queue tail
grown_none x marks queue tail = record { seen = λ y e. e; stands = λ j l. refl; up = omega arith }

pub grown_on : (x : ℕ) (m₀ q₀ : List ℕ) (t₀ : ℕ) (m₁ q₁ : List ℕ) (t₁ : ℕ) (m₂ q₂ : List ℕ) (t₂ : ℕ) → Grown x m₀ q₀ t₀ m₁ q₁ t₁
    → Grown x m₁ q₁ t₁ m₂ q₂ t₂ → Grown x m₀ q₀ t₀ m₂ q₂ t₂
grown_on x m₀ q₀ t₀ m₁ q₁ t₁ m₂ q₂ t₂ p q =
    record {
      seen = λ y e. q.seen y (p.seen y e);
      stands = λ j l. q.stands j (omega (arith, p.up)) ∙ p.stands j l;
      up = omega (arith, p.up, q.up);
    }

-- a job more
module _ (g : Graph) (x : ℕ) (marks queue : List ℕ) (tail y : ℕ) (p : Queued g x marks queue tail) (l : y < g.n) (new : at marks y ≡ x + 1 → ⊥) where
  abbrev marks⁺ : List ℕ
  marks⁺ = set marks y (x + 1)

  abbrev queue⁺ : List ℕ
  queue⁺ = set queue tail y

  pub mark_here : at (set marks y (x + 1)) y ≡ x + 1
  mark_here = get_or-set_same marks y (x + 1) 0 (omega (arith, p.long₁))

  mark_there : (z : ℕ) → (z ≡ y → ⊥) → at (set marks y (x + 1)) z ≡ at marks z
  mark_there z q = get_or-set_other marks y z (x + 1) 0 q

  mark_stays : (z : ℕ) → at marks z ≡ x + 1 → at (set marks y (x + 1)) z ≡ x + 1
  mark_stays z e = ⊎_elim (λ q. ap (at marks⁺) q ∙ mark_here) (λ q. mark_there z q ∙ e) (eq_or_ne z y)

  more_marks : count (λ z. eqb (at marks z) (x + 1)) 0 g.n < count (λ z. eqb (at (set marks y (x + 1)) z) (x + 1)) 0 g.n
  more_marks =
      count_strict (λ z. eqb (at marks z) (x + 1)) (λ z. eqb (at marks⁺ z) (x + 1)) g.n y l
      (ne_eqb (at marks y) (x + 1) new) (eq-eqb (at marks⁺ y) (x + 1) mark_here)
      (λ z e. eq-eqb (at marks⁺ z) (x + 1) (mark_stays z (eqb-true (at marks z) (x + 1) e)))

  pub queue_room : tail < g.n
  queue_room = omega (arith, p.room, more_marks, count_le (λ z. eqb (at (set marks y (x + 1)) z) (x + 1)) 0 g.n)

  last_here : at (set queue tail y) tail ≡ y
  last_here = get_or-set_same queue tail y 0 (omega (arith, p.long₂, queue_room))

  last_there : (j : ℕ) → j < tail → at (set queue tail y) j ≡ at queue j
  last_there j h = get_or-set_other queue tail j y 0 (λ q. omega arith)

  pub queue_grown : Grown x marks queue tail (set marks y (x + 1)) (set queue tail y) (tail + 1)
  queue_grown = record { seen = mark_stays; stands = last_there; up = omega arith }

  pub queue_on : Way g x y → Queued g x (set marks y (x + 1)) (set queue tail y) (tail + 1)
  queue_on w =
      record {
        some = omega arith;
        long₁ = length-set marks y (x + 1) ∙ p.long₁;
        long₂ = length-set queue tail y ∙ p.long₂;
        room = omega (arith, p.room, more_marks);
        low = λ j h. ⊎_elim (λ m. omega (arith, last_there j m, p.low j m)) (λ m. omega (arith, at_end j h m)) (lt_or_le j tail);
        came = λ j h. ⊎_elim (λ m. rw (last_there j m) (p.came j m)) (λ m. rw (at_end j h m) (inr w)) (lt_or_le j tail);
        placed = λ z e. place z e (eq_or_ne z y);
        recent = λ z. ⊎_elim (λ q. omega (arith, ap (at marks⁺) q, mark_here)) (λ q. omega (arith, mark_there z q, p.recent z)) (eq_or_ne z y);
      }
    where
      at_end : (j : ℕ) → j < tail + 1 → tail ≤ j → at (set queue tail y) j ≡ y
      at_end j h m = let e : j ≡ tail = omega arith in ap (at queue⁺) e ∙ last_here

      place : (z : ℕ) → at (set marks y (x + 1)) z ≡ x + 1 → (z ≡ y) ⊎ (z ≡ y → ⊥) → InQueue (set queue tail y) (tail + 1) z
      place z e (inl q) = record { place = tail; low = omega arith; is = last_here ∙ sym q }
      place z e (inr q) =
          let w = p.placed z (sym (mark_there z q) ∙ e) in
          record { place = w.place; low = omega (arith, w.low); is = last_there w.place w.low ∙ w.is }

pub closed_grown : (t : List ℕ) (x : ℕ) (m q : List ℕ) (s : ℕ) (m' q' : List ℕ) (s' k : ℕ) → Grown x m q s m' q' s' → Closed t x m k → Closed t x m' k
closed_grown t x m q s m' q' s' k g (inl l) = inl l
closed_grown t x m q s m' q' s' k g (inr h) = inr (g.seen (at t k) h.0, h.1)

-- a link goes on a way
pub way_by : (g : Graph) (x k : ℕ) → k < g.e → Came g x (g.from k) → Way g x (g.to k)
way_by g x k l (inl e) = one k l e refl
way_by g x k l (inr w) = more w k l refl refl

pub way_trans : (g : Graph) {x y z : ℕ} → Way g x y → Way g y z → Way g x z
way_trans g p (one k l f t) = more p k l f t
way_trans g p (more w k l f t) = more (way_trans g p w) k l f t

-- ---- where all that was seen is closed, x lies on no cycle
module _ (f t : List ℕ) (n x : ℕ) (marks queue : List ℕ) (tail : ℕ) (i : LinksInside (graph_of f t n))
    (before : (y : ℕ) → y < x → loops (graph_of f t n) y ≡ false) (p : Queued (graph_of f t n) x marks queue tail)
    (done : (j k : ℕ) → j < tail → k < length f → at f k ≡ at queue j → Closed t x marks k) (begun : at marks x ≡ x + 1) where
  abbrev g : Graph
  g = graph_of f t n

  -- a way from x goes through a job below x
  record Under (y : ℕ) : Type 0 where
    low : ℕ
    under : low < x
    to : Way (graph_of f t n) x low
    on : Came (graph_of f t n) low y

  reaches : (k y : ℕ) → k < length f → at f k ≡ y → at marks y ≡ x + 1 → Way (graph_of f t n) x (at t k)
      → ((at marks (at t k) ≡ x + 1) × (at t k ≡ x → ⊥)) ⊎ Under (at t k)
  reaches k y l e m w =
      let q = p.placed y m in
      ⊎_elim (λ h. inr (record { low = at t k; under = h; to = w; on = inl refl })) inl (done q.place k q.low l (e ∙ sym q.is))

  goes : {y : ℕ} → Way (graph_of f t n) x y → ((at marks y ≡ x + 1) × (y ≡ x → ⊥)) ⊎ Under y
  goes (one k l e h) = rw h at (reaches k x l e begun (one k l e refl))
  goes (more {y} w k l e h) = rw h at (⊎_elim (λ m. reaches k y l e m.0 (more w k l e refl)) (λ b. inr (past b)) (goes w))
    where
      past : Under y → Under (at t k)
      past b = record { low = b.low; under = b.under; to = b.to; on = inr (way_by g b.low k l (rw e b.on)) }

  pub no_loop : loops (graph_of f t n) x ≡ false
  no_loop = fails (λ e. ⊎_elim (λ m. m.1 refl) turned (goes ((loops_iff g x i).0 e)))
    where
      turned : Under x → ⊥
      turned b =
          clash ((loops_iff g b.low i).1 (⊎_elim (λ q. absurd (omega (arith, b.under))) (λ w. way_trans g w b.to) b.on))
          (before b.low b.under)
