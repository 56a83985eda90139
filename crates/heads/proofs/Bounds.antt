-- How far the answers go that the reader gets from the layer below, and what the cycle's answer says of rule 5.
use mathlib.Core.Bool.{Bool, true, false}
use mathlib.Core.Path.{◌≡◌, refl, sym, ◌∙◌, ap}
use mathlib.Core.List.{List}
use Prim.Native.Nat.{ℕ, ◌+◌, ◌*◌, ◌/◌, ◌≤◌}
use native.Mathlib.Nat.{div-le_self, mul-le-mul}
use native.Mathlib.Omega.{arith}
use borrow.Author.Tests.{leb-true}
use lib.Dec.{leb, eqb}
use Rattle.std.specs.Prelude.{Ok}
use Rattle.vocabulary.specs.Test.{pick}
use Rattle.vocabulary.proofs.Test.{both}
use Rattle.kinds.specs.declared.Key.{Key}
use Rattle.kinds.specs.declared.Cycle.{Cycle}
use Rattle.kinds.specs.Limits.{after}
use Rattle.kinds.specs.Tasks.{Tasks}
use Rattle.kinds.specs.Cycle.{cycle, cycle_fits, cycle_is, periods_fit, cycle_of}
use Rattle.kinds.specs.Links.{links_in}
use Rattle.std.specs.Prelude.{Some, None}
use Rattle.kinds.specs.RangeLaws.{holds_at, pick_some, pick_none}
use Rattle.kinds.proofs.PatternWalk.{HeadingFacts, heading_facts}
use Rattle.kinds.specs.SoundByTests.{few_tasks}
use Rattle.heads.specs.declared.Progress.{Progress}
use Rattle.numbers.specs.Results.{same_ok}
use Rattle.heads.specs.Tables.{Heading, Reached, pattern, heading_at, PatternTables, progress, PatternRead, pattern_read, pattern_from}
use Rattle.heads.specs.Heads.{OpeningRead, Middle, opening, opening_of, middle_from}
use Rattle.heads.proofs.ReadInRange.{heading_fits_lem, opening_fits_lem, middle_fits}
use Rattle.heads.proofs.ReadSteps.{pattern_went}

-- a heading that was let through names two of the n tasks, and its pairs leave room
pub heading_bounds : (s : List ℕ) (at : ℕ) (low : Key) (n used x y c q : ℕ) {r : Heading} → r ≡ heading_at s at low n used → r ≡ Ok (pattern x y c, q) → HeadingFacts n low x y c used
heading_bounds s at low n used x y c q h e = heading_facts n low x y c used (heading_fits_lem s at low n used x y c q (sym h ∙ e))

-- and makes so many links at most
pub links_low : (n h p : ℕ) {t : ℕ} {low : Key} {a b used x : ℕ} → x ≡ links_in n h p → HeadingFacts t low a b n used → h ≤ 6000 → x ≤ 6144000
unfolding links_in
links_low n h p {used = used} {x} q f l = by (eqb p 0) q
  where
    by : (b : Bool) → x ≡ pick b 0 (n * (h / p)) → x ≤ 6144000
    by true q = omega arith
    by false q =
        let b : n * (h / p) ≤ 1024 * 6000 = mul-le-mul {n₁ = n} {m₁ = h / p} {n₂ = 1024} {m₂ = 6000} (omega (arith, f.room)) (omega (arith, div-le_self h p)) in
        omega arith

-- so do the pairs and the links after one pattern more
pub pattern_low : (s : List ℕ) (e : ℕ) (t : Tasks) (h i : ℕ) (done : Progress) (u : PatternTables) {o : Reached} {v : PatternTables} {next : Progress}
    → h ≤ 6000 → pattern_read o v ≡ pattern_from s e t h i done u → o ≡ Ok next → (next.used ≤ 1024) × (next.links ≤ done.links + 6144000)
pattern_low s e t h i done u {next = next} l a b =
    let outcome-of : PatternRead → Reached = λ r. r.outcome in
    let w = pattern_went s e t h i done u (ap outcome-of (sym a) ∙ b) in
    let far : Progress = progress w.q (after w.x w.y) (done.used + w.c) (done.links + links_in w.c h w.spans.whole) in
    let y : next ≡ far = same_ok (sym b ∙ ap outcome-of (a ∙ w.to)) in
    let f = heading_bounds s done.at done.low t.count done.used w.x w.y w.c w.p refl w.is in
    rw y (omega (arith, f.room), omega (arith, links_low w.c h w.spans.whole refl f l))

-- counts and cycle that were let through
pub opening_low : (s : List ℕ) (e n m q : ℕ) {o : OpeningRead} → o ≡ opening_of s → o ≡ Ok (opening e n m, q) → n ≤ 64
opening_low s e n m q p w = few_tasks e n m (opening_fits_lem s e n m q (sym p ∙ w))

pub middle_low : (s : List ℕ) (at : ℕ) (t : Tasks) (c : Cycle) (k q : ℕ) {w : Middle}
    → w ≡ middle_from s at t → w ≡ Ok (c, k, q) → (k ≤ 64) × (c.ticks ≤ 6000)
unfolding cycle_fits
middle_low s at t c k q p e =
    let f = middle_fits s at t c k q (sym p ∙ e) in
    (omega (arith, holds_at 0 65 k f.few), omega (arith, f.ticks, leb-true (cycle t) 6000 (both {a = leb (cycle t) 6000} f.cycle_fits_lem).0))

-- ---- where the periods are in their range, there is a cycle exactly where rule 5 is kept
module _ (t : Tasks) (fit : periods_fit t ≡ true) where
  told : cycle_of t ≡ pick (cycle_fits t) (Some (cycle_is t)) None
  unfolding cycle_of
  told = rw fit

  pub cycle_broken : None ≡ cycle_of t → cycle_fits t ≡ false
  cycle_broken e = pick_none (cycle_fits t) _ (e ∙ told)

  pub cycle_kept : {c : Cycle} → Some c ≡ cycle_of t → (cycle_fits t ≡ true) × (c ≡ cycle_is t)
  cycle_kept e = pick_some (cycle_fits t) (e ∙ told)
