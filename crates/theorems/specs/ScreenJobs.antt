-- Jobs with windows, running times and links: what ticks given to them say of cycles (13) and of adjusted times (15).
use Rattle.std.specs.Prelude.{◌≡◌, Bool, true}
use Rattle.std.proofs.Common.{sym, ap, ◌∙◌}
use Prim.Native.Nat.{ℕ, zero, suc, ◌+◌, ◌-◌, ◌<◌, ◌≤◌}
use native.Mathlib.Omega.{arith}
use Rattle.vocabulary.specs.Count.{count, Tick}
use Rattle.vocabulary.proofs.Count.{count_one, count_room}
use Rattle.graph.specs.Graph.{Graph, LinksInside, Way, one, more}
use Rattle.graph.specs.Longest.{rounds}
use Rattle.graph.proofs.Settle.{entry_under}
use Rattle.graph.specs.Sub.{flip}

-- job x is released at r x, has to be done before d x, and runs for c x ticks
pub record Jobs : Type 0 where
  pub links : Graph
  pub r : ℕ → ℕ
  pub d : ℕ → ℕ
  pub c : ℕ → ℕ

-- where `runs x t` says that job x gets tick t: every job gets its ticks, in its window, and links are kept
pub record Given (j : Jobs) (runs : ℕ → ℕ → Bool) : Type 0 where
  pub ends : LinksInside j.links
  pub some_time : (x : ℕ) → x < j.links.n → 0 < j.c x
  pub inside : (x t : ℕ) → x < j.links.n → runs x t ≡ true → (j.r x ≤ t) × (t < j.d x)
  pub exact : (x : ℕ) → x < j.links.n → count (runs x) (j.r x) (j.d x - j.r x) ≡ j.c x
  pub kept : (k t t' : ℕ) → k < j.links.e → runs (j.links.from k) t ≡ true → runs (j.links.to k) t' ≡ true → t < t'

-- adjusted release after s rounds, where a link adds w of its first job
abbrev pub starts : Jobs → (ℕ → ℕ) → ℕ → ℕ → ℕ
starts j w s x = rounds j.links j.r w s x

-- how far before z a job has to be done, after s rounds: z less its adjusted deadline
abbrev pub stops : Jobs → ℕ → ℕ → ℕ → ℕ
stops j z s x = rounds (flip j.links) (λ y. z - j.d y) j.c s x

module _ (j : Jobs) (runs : ℕ → ℕ → Bool) (g : Given j runs) where
  tick_of_lem : (x : ℕ) → x < j.links.n → Tick (runs x)
  tick_of_lem x l = count_one (runs x) (j.r x) (j.d x - j.r x) (omega (arith, g.exact x l, g.some_time x l))

  -- along a way, every tick of the first job is earlier than every tick of the last
  earlier : {x y : ℕ} → Way j.links x y → (t t' : ℕ) → runs x t ≡ true → runs y t' ≡ true → t < t'
  earlier (one k l f e) t t' p q = g.kept k t t' l (rw f p) (rw e q)
  earlier (more w k l f e) t t' p q =
      let b = tick_of_lem (j.links.from k) (g.ends.starts k l) in
      omega (arith, earlier w t b.at p (ap (λ (z : ℕ). runs z b.at) (sym f) ∙ b.is), g.kept k b.at t' l b.is (rw e q))

  -- so around a ring a tick would be earlier than itself
  pub no_ring : (x : ℕ) → x < j.links.n → Way j.links x x → ⊥
  no_ring x l w = let b = tick_of_lem x l in omega (arith, earlier w b.at b.at b.is b.is)

  -- no tick before the adjusted release
  early : (w : ℕ → ℕ) → ((x : ℕ) → x < j.links.n → w x ≤ j.c x) → (s x t : ℕ) → x < j.links.n → runs x t ≡ true → starts j w s x ≤ t
  unfolding rounds
  early w hw zero x t l p = (g.inside x t l p).0
  early w hw (suc s) x t l p =
      entry_under j.links j.r w (starts j w s) x t (g.inside x t l p).0
      (λ k lk q.
      let y : ℕ = j.links.from k in
      let ly = g.ends.starts k lk in
      let room = count_room (runs y) (starts j w s y) t (j.r y) (j.d y - j.r y)
      (λ t' p'. (early w hw s y t' ly p', g.kept k t' t lk p' (rw q p))) in
      omega (arith, room, g.exact y ly, g.some_time y ly, hw y ly))

  -- and none from the adjusted deadline on
  late : (z : ℕ) → ((x : ℕ) → x < j.links.n → j.d x ≤ z) → (s x t : ℕ) → x < j.links.n → runs x t ≡ true → stops j z s x + t < z
  unfolding rounds
  late z hz zero x t l p = omega (arith, g.inside x t l p, hz x l)
  late z hz (suc s) x t l p =
      let own = g.inside x t l p in
      let e = entry_under (flip j.links) (λ y. z - j.d y) j.c (stops j z s) x (z - 1 - t) (omega (arith, hz x l))
      (λ k lk q.
      let y : ℕ = j.links.to k in
      let ly = g.ends.ends k lk in
      let room = count_room (runs y) (t + 1) (z - stops j z s y) (j.r y) (j.d y - j.r y)
      (λ t' p'. let a = g.kept k t t' lk (rw q p) p' in let b = late z hz s y t' ly p' in (omega arith, omega arith)) in
      omega (arith, room, g.exact y ly, g.some_time y ly)) in
      omega (arith, e, hz x l)

  -- so there is room for a job's ticks between the two
  pub room_between : (w : ℕ → ℕ) → ((x : ℕ) → x < j.links.n → w x ≤ j.c x) → (z : ℕ) → ((x : ℕ) → x < j.links.n → j.d x ≤ z) → (s s' x : ℕ)
      → x < j.links.n → starts j w s x + j.c x + stops j z s' x ≤ z
  room_between w hw z hz s s' x l =
      let room = count_room (runs x) (starts j w s x) (z - stops j z s' x) (j.r x) (j.d x - j.r x)
      (λ t p. let a = early w hw s x t l p in let b = late z hz s' x t l p in (a, omega arith)) in
      omega (arith, room, g.exact x l, g.some_time x l)
