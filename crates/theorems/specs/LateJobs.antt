-- Late jobs, for releases over any weight up to the running time. On a sound set without a cycle some job is late exactly where one is late by its own release,
-- which no weight touches. So all such weights find a late job in the same sets, and the greater weight finds it no later.
use Rattle.std.specs.Prelude.{◌≡◌, refl, Bool, false, ◌⊎◌, ltb, ℤ, pos}
use Rattle.std.proofs.Common.{sym, ◌∙◌, inl, inr}
use Rattle.std.proofs.Math.Path.{ap}
use Rattle.std.proofs.Math.Bool.{true}
use Prim.Native.Nat.{ℕ, ◌+◌, ◌-◌, ◌≤◌, ◌<◌}
use native.Mathlib.Omega.{arith}
use Rattle.std.specs.Int.Signed.{lt_z}
use borrow.Author.Tests.{lt-ltb, le-ltb, ltb-true, ltb-false}
use Rattle.vocabulary.proofs.Test.{clash, lt_or_le}
use Rattle.vocabulary.specs.Least.{some}
use Rattle.vocabulary.proofs.Least.{least_is, some_not, none}
use Rattle.graph.specs.Graph.{Graph, LinksInside}
use Rattle.graph.specs.Reach.{Free}
use Rattle.graph.specs.Longest.{rounds}
use Rattle.graph.proofs.Settle.{rounds_solve}
use Rattle.graph.specs.Settle.{Over}
use Rattle.graph.proofs.Settle.{rounds_under, solves_over}
use Rattle.graph.specs.Sub.{flip}
use Rattle.graph.proofs.Equation.{flip_free}
use Rattle.graph.proofs.Listed.{below_sub, rounds_le}
use Rattle.kinds.specs.Tasks.{Tasks, Patterns, Set}
use Rattle.kinds.specs.Cycle.{jobs}
use Rattle.kinds.specs.Sound.{sound}
use Rattle.kinds.proofs.SoundFacts.{Sound, sound_facts}
use Rattle.network.specs.Network.{network}
use Rattle.network.specs.NetworkLaws.{jobs_of_network, inside_network}
use Rattle.network.specs.Times.{Weight, own_release, own_due, own_running, release_by}
use Rattle.network.specs.TimesLaws.{ahead, adjusted_deadline_is}
use Rattle.network.specs.Causes.{tight_by, lowest_tight_by}
use Rattle.theorems.specs.ScreenTimes.{NoCycle, no_cycle_free}

-- no job's weight is over its running time
pub record Light (w : Weight) (u : Tasks) : Type 0 where
  pub each : (x : ℕ) → x < jobs u → w u x ≤ own_running u x

module _ (s : Set) (e : sound s ≡ true) (free : NoCycle s.tasks s.patterns) where
  abbrev u : Tasks
  u = s.tasks

  abbrev v : Patterns
  v = s.patterns

  abbrev g : Graph
  g = network s.tasks s.patterns

  abbrev f : Sound s
  f = sound_facts s e

  inside : LinksInside g
  inside = inside_network s f

  around : LinksInside (flip g)
  around = record { starts = inside.ends; ends = inside.starts }

  acyclic : Free g
  acyclic = no_cycle_free u v free

  -- late, in natural numbers: `ahead` is how far before tick 12,000 a job's adjusted deadline lies
  late_is : (w : Weight) (x : ℕ) → x < jobs u → tight_by w u v x ≡ ltb 12000 (release_by w u v x + own_running u x + ahead u v x)
  unfolding tight_by
  late_is w x l =
      ap (λ (d : ℤ). lt_z d (pos (release_by w u v x + own_running u x))) (adjusted_deadline_is s f x l)
      ∙ below_sub 12000 (release_by w u v x + own_running u x) (ahead u v x)

  -- no job is late by releases r
  abbrev InTime : (ℕ → ℕ) → Type 0
  InTime r = (x : ℕ) → x < jobs u → r x + own_running u x + ahead u v x ≤ 12000

  -- a job's adjusted deadline lies at least its successor's C before its successor's
  ahead_link : (k : ℕ) → k < g.e → ahead u v (g.to k) + own_running u (g.to k) ≤ ahead u v (g.from k)
  ahead_link k l =
      (solves_over (flip g) (λ y. 12000 - own_due u y) (own_running u) around (ahead u v)
      (rounds_solve (flip g) (λ y. 12000 - own_due u y) (own_running u) around (flip_free g inside acyclic))).link k l

  module _ (w : Weight) where
    -- an adjusted release is not before the own one
    own_in_time : InTime (release_by w u v) → InTime (own_release u)
    unfolding release_by
    own_in_time h x l =
        let r : ℕ → ℕ = rounds g (own_release u) (w u) g.n in
        let o = (solves_over g (own_release u) (w u) inside r (rounds_solve g (own_release u) (w u) inside acyclic)).own x (rw jobs_of_network l) in
        let t = h x l in
        omega arith

    -- Where no job is late by its own release, a job's latest start is what lies its C before its adjusted deadline. These starts satisfy the rule as
    -- inequalities, so no adjusted release is over them.
    all_in_time : Light w u → InTime (own_release u) → InTime (release_by w u v)
    unfolding release_by
    all_in_time light h x l =
        let r = rounds_under g (own_release u) (w u) inside (λ y. 12000 - (own_running u y + ahead u v y)) over g.n x (rw jobs_of_network l) in
        let t = h x l in
        omega arith
      where
        over : Over g (own_release u) (w u) (λ y. 12000 - (own_running u y + ahead u v y))
        over =
            record {
              own = λ y ly. let t = h y (rw jobs_of_network at ly) in omega arith;
              link = λ k lk.
                  let low = rw jobs_of_network at (inside.starts k lk) in
                  let t = h (g.from k) low in
                  let c = light.each (g.from k) low in
                  let a = ahead_link k lk in
                  omega arith;
            }

    none_late : some (tight_by w u v) (jobs u) ≡ false → InTime (own_release u)
    none_late h =
        own_in_time (λ x l.
        ltb-false 12000 (release_by w u v x + own_running u x + ahead u v x) (sym (late_is w x l) ∙ some_not (tight_by w u v) (jobs u) h x l))

    late_none : Light w u → InTime (own_release u) → some (tight_by w u v) (jobs u) ≡ false
    late_none light h =
        none (tight_by w u v) (jobs u)
        (λ x l. late_is w x l ∙ le-ltb 12000 (release_by w u v x + own_running u x + ahead u v x) (all_in_time light h x l))

  -- ==== Whether some job is late is the same for any two weights up to the running time.
  pub same_late : (w w' : Weight) → Light w s.tasks → Light w' s.tasks
      → ltb (lowest_tight_by w s) (jobs s.tasks) ≡ ltb (lowest_tight_by w' s) (jobs s.tasks)
  same_late w w' c c' = go (some (tight_by w u v) (jobs u)) (some (tight_by w' u v) (jobs u)) refl refl
    where
      go : (a b : Bool) → some (tight_by w u v) (jobs u) ≡ a → some (tight_by w' u v) (jobs u) ≡ b → a ≡ b
      go true true p q = refl
      go false false p q = refl
      go true false p q = clash p (late_none w c (none_late w' q))
      go false true p q = clash q (late_none w' c' (none_late w p))

  -- ==== With a greater weight the lowest late job is the same or an earlier one.
  pub no_later : (w w' : Weight) → ((x : ℕ) → x < jobs s.tasks → w s.tasks x ≤ w' s.tasks x) → lowest_tight_by w' s ≤ lowest_tight_by w s
  unfolding release_by
  no_later w w' h = go (lt_or_le (lowest_tight_by w s) (lowest_tight_by w' s))
    where
      up : (x : ℕ) → x < jobs u → tight_by w u v x ≡ true → tight_by w' u v x ≡ true
      up x l t =
          let a = ltb-true 12000 (release_by w u v x + own_running u x + ahead u v x) (sym (late_is w x l) ∙ t) in
          let b = rounds_le g inside (own_release u) (own_release u) (w u) (w' u) (λ y ly. omega arith) (λ y ly. h y (rw jobs_of_network at ly)) g.n x
          (rw jobs_of_network l) in
          late_is w' x l ∙ lt-ltb 12000 (release_by w' u v x + own_running u x + ahead u v x) (omega arith)

      go : (lowest_tight_by w s < lowest_tight_by w' s) ⊎ (lowest_tight_by w' s ≤ lowest_tight_by w s) → lowest_tight_by w' s ≤ lowest_tight_by w s
      go (inl l) =
          let b = least_is (tight_by w' u v) (jobs u) in
          let low : lowest_tight_by w s < jobs u = omega (arith, b.within) in
          clash (up (lowest_tight_by w s) low ((least_is (tight_by w u v) (jobs u)).found low)) (b.before (lowest_tight_by w s) l)
      go (inr l) = l
