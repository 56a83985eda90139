-- Laws of the definitions in specs/JobRows.antt.
use Rattle.std.specs.Prelude.{◌≡◌, refl, Bool, true, false, List, [], ℕ, ◌+◌, ◌≤◌, ◌<◌, min, length, get_or, set}
use Rattle.std.proofs.Common.{sym, ◌∙◌, arith, length-set}
use Rattle.graph.specs.Column.{column}
use Rattle.graph.proofs.Column.{column_long, column_at, column_set, column_kept}
use Rattle.graph.specs.Pass.{limit, at, Lined, Raised, turn, PassingLinks}
use Rattle.graph.proofs.Pass.{raised, not_raised, turn_low, pass_from, pass_on, settle_from}
use Rattle.graph.proofs.Pass.{settle_on, settle_still}
use Rattle.graph.specs.Cycle.{Between}
use Rattle.graph.proofs.Cycle.{between_back}
use Rattle.graph.specs.JobRows.{runs, releases, aheads, starts, ends, Ready, Hop, Raises, Delayed, Hastened, Hopped, Sweeps, Rounds}

module _ (links rows : List (List ℕ)) (p : Ready links rows) where
  -- either time, in column c, along links from f to t
  lined : (c : ℕ) (f t : List ℕ) → Between f t (length rows) → ((x : ℕ) → x < length rows → at (column c rows) x ≤ limit)
      → Lined f t (runs rows) (column c rows)
  lined c f t b low =
      let e : length (column c rows) ≡ length rows = column_long c rows in
      record {
        long = b.long;
        weights = column_long 0 rows ∙ sym e;
        starts = λ k l. omega (arith, b.starts k l);
        ends = λ k l. omega (arith, b.ends k l);
        light = λ x l. p.light x (omega arith);
        low = λ x l. low x (omega arith);
      }

  pub release_lined : Lined (starts links) (ends links) (runs rows) (releases rows)
  release_lined = lined 1 (starts links) (ends links) p.between p.early

  pub ahead_lined : Lined (ends links) (starts links) (runs rows) (aheads rows)
  ahead_lined = lined 2 (ends links) (starts links) (between_back (starts links) (ends links) (length rows) p.between) p.late

module _ (c o a b : ℕ) (rows : List (List ℕ)) {s : ℕ} (e : s ≡ min (get_or (get_or rows a []) c 0 + get_or (get_or rows a []) 0 0) limit) where
  brought : s ≡ min (at (column c rows) a + at (runs rows) a) limit
  brought = omega (arith, e, column_at c rows a, column_at 0 rows a)

  -- the row that job b gets
  pub raises : (row : List ℕ) → get_or row 0 0 ≡ get_or (get_or rows b []) 0 0 → get_or row o 0 ≡ get_or (get_or rows b []) o 0 → get_or row c 0 ≡ s → b < length rows
      → get_or (get_or rows b []) c 0 < s → Raises c o a b rows (set rows b row) true
  raises row er eo es lb l =
      record {
        long = length-set rows b row;
        same = column_kept 0 rows b row er;
        other = column_kept o rows b row eo;
        raised =
            rw (column_set c rows b row, es)
            (raised (runs rows) a b (column c rows) s brought (omega (arith, column_at c rows b)) (omega (arith, column_long c rows)));
      }

  pub not_raises : s ≤ get_or (get_or rows b []) c 0 → Raises c o a b rows rows false
  not_raises l =
      record { long = refl; same = refl; other = refl; raised = not_raised (runs rows) a b (column c rows) s brought (omega (arith, column_at c rows b)) }

reflag : (w : List ℕ) (a b : ℕ) (v v' : List ℕ) (r r' : Bool) → (r' ≡ false → r ≡ false) → Raised w a b v v' r → Raised w a b v v' r'
reflag w a b v v' r r' h p =
    record { long = p.long; grow = p.grow; got = p.got; low = p.low; under = p.under; still = λ e. p.still (h e) }

-- what the second of the two asks
pub hop_on : (a b : ℕ) (rows rows' : List (List ℕ)) (r : Bool) → Hop a b rows → Delayed a b rows rows' r → Hop a b rows'
hop_on a b rows rows' r h p =
    record {
      from = omega (arith, h.from, p.long);
      to = omega (arith, h.to, p.long);
      light_from = rw p.same h.light_from;
      light_to = rw p.same h.light_to;
      early = p.raised.low a h.early;
      late = rw p.other h.late;
    }

pub hopped : (a b : ℕ) (rows rows' rows'' : List (List ℕ)) (r₁ r₂ r : Bool) → Delayed a b rows rows' r₁ → Hastened a b rows' rows'' r₂
    → (r ≡ false → (r₁ ≡ false) × (r₂ ≡ false)) → Hopped a b rows rows'' r
hopped a b rows rows' rows'' r₁ r₂ r p q h =
    record {
      long = q.long ∙ p.long;
      same = q.same ∙ p.same;
      release = rw q.other (reflag (runs rows) a b (releases rows) (releases rows') r₁ r (λ e. (h e).0) p.raised);
      ahead = reflag (runs rows) b a (aheads rows) (aheads rows'') r₂ r (λ e. (h e).1) (rw (p.same, p.other) at q.raised);
    }

module _ (back : Bool) (links rows : List (List ℕ)) (p : Ready links rows) where
  pub sweep_from : Sweeps back links rows rows 0 false
  sweep_from =
      record {
        long = refl;
        same = refl;
        release = pass_from back (starts links) (ends links) (runs rows) (releases rows) (release_lined links rows p);
        ahead = pass_from back (ends links) (starts links) (runs rows) (aheads rows) (ahead_lined links rows p);
      }

  -- link i is the next
  module _ (rows' : List (List ℕ)) (k : ℕ) (r : Bool) (q : Sweeps back links rows rows' k r) (l : k < length links) {i a b : ℕ}
      (ei : i ≡ turn back (length links) k) (ea : a ≡ get_or (get_or links i []) 0 0) (eb : b ≡ get_or (get_or links i []) 1 0) where
    start_is : at (starts links) i ≡ a
    start_is = column_at 0 links i ∙ sym ea

    end_is : at (ends links) i ≡ b
    end_is = column_at 1 links i ∙ sym eb

    low : i < length links
    low = omega (arith, ei, turn_low back (length links) k l)

    pub sweep_hop : Hop a b rows'
    sweep_hop =
        let li : i < length (starts links) = omega (arith, column_long 0 links, low) in
        let la : a < length rows = omega (arith, p.between.starts i li, start_is) in
        let lb : b < length rows = omega (arith, p.between.ends i li, end_is) in
        record {
          from = omega (arith, q.long);
          to = omega (arith, q.long);
          light_from = rw q.same (p.light a la);
          light_to = rw q.same (p.light b lb);
          early = q.release.low a (omega (arith, column_long 1 rows));
          late = q.ahead.low b (omega (arith, column_long 2 rows));
        }

    pub sweep_on : (rows'' : List (List ℕ)) (c r' : Bool) → Hopped a b rows' rows'' c → (r' ≡ false → (r ≡ false) × (c ≡ false))
        → Sweeps back links rows rows'' (k + 1) r'
    sweep_on rows'' c r' h f =
        let h₁ : Raised (runs rows) (at (starts links) i) (at (ends links) i) (releases rows') (releases rows'') c =
        rw (start_is, end_is) (rw q.same at h.release) in
        let h₂ : Raised (runs rows) (at (ends links) i) (at (starts links) i) (aheads rows') (aheads rows'') c =
        rw (start_is, end_is) (rw q.same at h.ahead) in
        record {
          long = h.long ∙ q.long;
          same = h.same ∙ q.same;
          release =
              pass_on back (starts links) (ends links) (runs rows) (releases rows) (releases rows') (releases rows'') k i r c r'
              (release_lined links rows p) q.release (omega (arith, column_long 0 links)) (rw (column_long 0 links) ei) h₁ f;
          ahead =
              pass_on back (ends links) (starts links) (runs rows) (aheads rows) (aheads rows') (aheads rows'') k i r c r'
              (ahead_lined links rows p) q.ahead (omega (arith, column_long 1 links)) (rw (column_long 1 links) ei) h₂ f;
        }

  pub sweep_end : (rows' : List (List ℕ)) (k : ℕ) (r : Bool) → Sweeps back links rows rows' k r → length links ≤ k
      → Sweeps back links rows rows' (length links) r
  sweep_end rows' k r q l =
      let e : k ≡ length links = omega (arith, q.release.within, column_long 0 links) in
      rw e at q

module _ (links rows : List (List ℕ)) (p : Ready links rows) where
  pub rounds_from : Rounds links rows rows 0
  rounds_from =
      record {
        long = refl;
        same = refl;
        release = settle_from (starts links) (ends links) (runs rows) (releases rows) (release_lined links rows p);
        ahead = settle_from (ends links) (starts links) (runs rows) (aheads rows) (ahead_lined links rows p);
      }

  module _ (rows' : List (List ℕ)) (s : ℕ) (q : Rounds links rows rows' s) where
    pub still_ready : Ready links rows'
    still_ready =
        let e = q.long in
        record {
          between = rw e p.between;
          light = λ x l. rw q.same (p.light x (omega arith));
          early = λ x l. q.release.low x (omega (arith, column_long 1 rows));
          late = λ x l. q.ahead.low x (omega (arith, column_long 2 rows));
        }

    module _ (back : Bool) (rows'' : List (List ℕ)) (r : Bool) (w : Sweeps back links rows' rows'' (length links) r) where
      w₁ : PassingLinks back (starts links) (ends links) (runs rows) (releases rows') (releases rows'') (length (starts links)) r
      w₁ = rw (column_long 0 links) (rw q.same at w.release)

      w₂ : PassingLinks back (ends links) (starts links) (runs rows) (aheads rows') (aheads rows'') (length (ends links)) r
      w₂ = rw (column_long 1 links) (rw q.same at w.ahead)

      pub rounds_on : Rounds links rows rows'' (s + 1)
      rounds_on =
          record {
            long = w.long ∙ q.long;
            same = w.same ∙ q.same;
            release =
                settle_on back (starts links) (ends links) (runs rows) (releases rows) (releases rows') (releases rows'') s r (release_lined links rows p)
                q.release w₁;
            ahead = settle_on back (ends links) (starts links) (runs rows) (aheads rows) (aheads rows') (aheads rows'') s r (ahead_lined links rows p) q.ahead w₂;
          }

      pub rounds_still : r ≡ false → Rounds links rows rows'' (length rows)
      rounds_still f =
          record {
            long = w.long ∙ q.long;
            same = w.same ∙ q.same;
            release =
                rw (column_long 1 rows) at
                (settle_still back (starts links) (ends links) (runs rows) (releases rows) (releases rows') (releases rows'') s r
                (release_lined links rows p) q.release w₁ f);
            ahead =
                rw (column_long 2 rows) at
                (settle_still back (ends links) (starts links) (runs rows) (aheads rows) (aheads rows') (aheads rows'') s r (ahead_lined links rows p)
                q.ahead w₂ f);
          }

pub rounds_at : (links rows rows' : List (List ℕ)) (s m : ℕ) → Rounds links rows rows' s → s ≤ m → m ≤ s → Rounds links rows rows' m
rounds_at links rows rows' s m p l h = let e : s ≡ m = omega arith in rw e at p
