-- Tables keep what was read: later turns write only behind it.
use mathlib.Core.Path.{◌≡◌, sym, ap, ◌∙◌, subst}
use mathlib.Core.List.{List}
use Prim.Native.Nat.{ℕ, zero, suc, ◌+◌, ◌*◌}
use native.Mathlib.Omega.{arith}
use Rattle.std.specs.Prelude.{Ok}
use Rattle.vocabulary.specs.Keep.{SamePrefix, Row}
use Rattle.vocabulary.proofs.Keep.{kept_self, kept_on}
use Rattle.kinds.specs.declared.Key.{Key}
use Rattle.kinds.specs.Limits.{no_key, after}
use Rattle.kinds.specs.Tasks.{Tasks, put_pair}
use Rattle.kinds.specs.Links.{links_in}
use Rattle.kinds.proofs.Rows.{heading_kept, pair_kept, pair_row}
use Rattle.heads.specs.declared.Progress.{Progress}
use Rattle.heads.specs.Tables.{PairsRead, pairs_from, PatternTables, with_pattern, progress, PatternsRead, patterns_from}
use Rattle.heads.proofs.ReadSteps.{pairs_went, patterns_went, patterns_rest}

-- ---- pairs
pub pairs_kept : (s : List ℕ) (k at : ℕ) (low : Key) (la lb j : ℕ) (u : List ℕ) (q : ℕ) → (pairs_from s k at low la lb j u).outcome ≡ Ok q → SamePrefix u (pairs_from s k at low la lb j u).table (2 * j)
unfolding pairs_from
pairs_kept s zero at low la lb j u q e = kept_self u (2 * j)
pairs_kept s (suc k) at low la lb j u q e =
    let w = pairs_went s k at low la lb j u q e in
    let v : List ℕ = put_pair u j w.x w.y in
    let r : PairsRead = pairs_from s k w.next (after w.x w.y) la lb (j + 1) v in
    let p = pairs_kept s k w.next (after w.x w.y) la lb (j + 1) v q (ap (λ (x : PairsRead). x.outcome) (sym w.rest) ∙ e) in
    subst (λ (x : PairsRead). SamePrefix u x.table (2 * j)) (sym w.rest) (pair_kept u j w.x w.y r.table p)

-- behind what was read the table holds 0
pub pairs_row : (s : List ℕ) (k at : ℕ) (low : Key) (la lb j : ℕ) (u : List ℕ) (q : ℕ) → Row u 2048 (2 * j) → (pairs_from s k at low la lb j u).outcome ≡ Ok q → Row (pairs_from s k at low la lb j u).table 2048 (2 * (j + k))
unfolding pairs_from
pairs_row s zero at low la lb j u q r e = let z : j + 0 ≡ j = omega arith in rw z r
pairs_row s (suc k) at low la lb j u q r e =
    let w = pairs_went s k at low la lb j u q e in
    let v : List ℕ = put_pair u j w.x w.y in
    let p = pairs_row s k w.next (after w.x w.y) la lb (j + 1) v q (pair_row u j w.x w.y 2048 r) (ap (λ (x : PairsRead). x.outcome) (sym w.rest) ∙ e) in
    let z : j + 1 + k ≡ j + suc k = omega arith in
    rw z at (subst (λ (x : PairsRead). Row x.table 2048 (2 * (j + 1 + k))) (sym w.rest) p)

-- ---- patterns
pub record PatternsKept (u w : PatternTables) (i used : ℕ) : Type 0 where
  pub headings : SamePrefix u.headings w.headings (3 * i)
  pub pairs : SamePrefix u.pairs w.pairs (2 * used)

pub patterns_kept : (s : List ℕ) (e : ℕ) (t : Tasks) (h k i : ℕ) (done : Progress) (u : PatternTables) (q l : ℕ)
    → (patterns_from s e t h k i done u).outcome ≡ Ok (q, l) → PatternsKept u (patterns_from s e t h k i done u).tables i done.used
unfolding patterns_from
patterns_kept s e t h zero i done u q l g = record { headings = kept_self u.headings (3 * i); pairs = kept_self u.pairs (2 * done.used) }
patterns_kept s e t h (suc k) i done u q l g =
    let w = patterns_went s e t h i done u k q l g in
    let rest = patterns_rest s e t h i done u k w in
    let used : ℕ = done.used in
    let v : PatternTables = with_pattern u i w.x w.y w.c w.v in
    let next : Progress = progress w.q (after w.x w.y) (used + w.c) (done.links + links_in w.c h w.spans.whole) in
    let r : PatternsRead = patterns_from s e t h k (i + 1) next v in
    let p = patterns_kept s e t h k (i + 1) next v q l (ap (λ (x : PatternsRead). x.outcome) (sym rest) ∙ g) in
    let b : SamePrefix u.pairs w.v (2 * used) =
    subst (λ (x : PairsRead). SamePrefix u.pairs x.table (2 * used)) w.pairs
    (pairs_kept s w.c w.p no_key w.spans.first w.spans.second used u.pairs w.q (ap (λ (x : PairsRead). x.outcome) w.pairs)) in
    let f : PatternsKept u r.tables i used =
    record {
      headings = heading_kept u.headings i w.x w.y w.c r.tables.headings p.headings;
      pairs = kept_on u.pairs w.v r.tables.pairs (2 * used) (2 * (used + w.c)) (omega arith) b p.pairs;
    } in
    subst (λ (x : PatternsRead). PatternsKept u x.tables i used) (sym rest) f
