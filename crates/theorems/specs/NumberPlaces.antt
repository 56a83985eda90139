-- How far a number of a file reaches, and that no byte behind it counts.
use Rattle.std.specs.Prelude.{◌≡◌, refl, Bool, true, false, List, ℕ, ◌+◌, ◌*◌, ◌-◌, ◌<◌, ◌≤◌, leb, ltb, eqb, length, get_or, take, Ok, Err}
use Rattle.std.proofs.Common.{sym, ◌∙◌, arith, leb-false, length-take, get_or-take}
use Rattle.std.proofs.lemmas.Bool.{lt-leb, eqb-false}
use Rattle.vocabulary.specs.Test.{pick}
use Rattle.vocabulary.proofs.Test.{took, missed}
use Rattle.kinds.specs.Limits.{Range, holds}
use Rattle.kinds.specs.RangeLaws.{holds_at}
use Rattle.numbers.specs.declared.Refusal.{Refusal}
use Rattle.numbers.specs.declared.NumberFault.TheVariants as numberFault
use Rattle.numbers.specs.Numbers.{Number, number_at, held, got_at}
use Rattle.numbers.specs.Results.{err_ok, ok_first, ok_second}
use Rattle.numbers.specs.Bytes.{third_at, second_at, number_is}
use Rattle.heads.proofs.ReadInRange.{let_through}

-- t has the bytes of s before place p
pub record SameTo (s t : List ℕ) (p : ℕ) : Type 0 where
  pub long : p ≤ length t
  pub byte : (j : ℕ) → j < p → get_or s j 0 ≡ get_or t j 0

pub same_less : (s t : List ℕ) (p q : ℕ) → p ≤ q → SameTo s t q → SameTo s t p
same_less s t p q l w = record { long = omega (arith, w.long); byte = λ j h. w.byte j (omega arith) }

pub same_part : (s : List ℕ) (p : ℕ) → p ≤ length s → SameTo s (take p s) p
same_part s p l = record { long = omega (arith, length-take p s); byte = λ j h. sym (get_or-take p s j 0 h) }

-- a number is read from place `at` on, and the next place is `next`: the same is read from any file with the same bytes so far. P is what reads it
record Reach (s : List ℕ) (at bytes low : ℕ) (P : List ℕ → Number) (v next : ℕ) : Type 0 where
  rises : at + bytes ≤ next
  ends : next ≤ at + 3
  within : next ≤ length s
  long : low ≤ v
  two : v < 16384 → next ≤ at + 2
  again : (t : List ℕ) → SameTo s t next → P t ≡ Ok (v, next)

third_reach : (s : List ℕ) (at low v next : ℕ) → third_at s at low ≡ Ok (v, next) → Reach s at 3 128 (λ t. third_at t at low) v next
unfolding third_at
third_reach s at low v next e =
    let a = missed (leb (length s) (at + 2)) _ _ _ e err_ok in
    let b = missed (eqb (get_or s (at + 2) 0) 0) _ _ _ a.1 err_ok in
    let c = took (ltb (get_or s (at + 2) 0) 128) _ _ _ b.1 err_ok in
    let l : at + 2 < length s = leb-false (length s) (at + 2) a.0 in
    let n : at + 3 ≡ next = ok_second c.1 in
    let z : low + 16384 * get_or s (at + 2) 0 ≡ v = ok_first c.1 in
    let some : get_or s (at + 2) 0 ≡ 0 → ⊥ = eqb-false _ 0 b.0 in
    record {
      rises = omega arith;
      ends = omega arith;
      within = omega arith;
      long = omega (arith, some);
      two = λ h. absurd (omega (arith, some));
      again = λ t w.
          rw (lt-leb (length t) (at + 2) (omega (arith, w.long)), ← w.byte (at + 2) (omega arith), b.0, c.0) c.1;
    }

second_reach : (s : List ℕ) (at low v next : ℕ) → second_at s at low ≡ Ok (v, next) → Reach s at 2 128 (λ t. second_at t at low) v next
unfolding second_at
second_reach s at low v next e =
    let a = missed (leb (length s) (at + 1)) _ _ _ e err_ok in
    let b = missed (eqb (get_or s (at + 1) 0) 0) _ _ _ a.1 err_ok in
    by (ltb (get_or s (at + 1) 0) 128) refl (leb-false (length s) (at + 1) a.0) b.0 b.1
  where
    by : (x : Bool) → ltb (get_or s (at + 1) 0) 128 ≡ x → at + 1 < length s → eqb (get_or s (at + 1) 0) 0 ≡ false
        → pick x (Ok (low + 128 * get_or s (at + 1) 0, at + 2)) (third_at s at (low + 128 * (get_or s (at + 1) 0 - 128))) ≡ Ok (v, next)
        → Reach s at 2 128 (λ t. second_at t at low) v next
    by true h l z c =
        let n : at + 2 ≡ next = ok_second c in
        let k : low + 128 * get_or s (at + 1) 0 ≡ v = ok_first c in
        let some : get_or s (at + 1) 0 ≡ 0 → ⊥ = eqb-false _ 0 z in
        record {
          rises = omega arith;
          ends = omega arith;
          within = omega arith;
          long = omega (arith, some);
          two = λ q. omega arith;
          again = λ t w. rw (lt-leb (length t) (at + 1) (omega (arith, w.long)), ← w.byte (at + 1) (omega arith), z, h) c;
        }
    by false h l z c =
        let r = third_reach s at (low + 128 * (get_or s (at + 1) 0 - 128)) v next c in
        record {
          rises = omega (arith, r.rises);
          ends = r.ends;
          within = r.within;
          long = r.long;
          two = r.two;
          again = λ t w.
              rw (lt-leb (length t) (at + 1) (omega (arith, w.long, r.rises)), ← w.byte (at + 1) (omega (arith, r.rises)), z, h) (r.again t w);
        }

-- ---- a number that was read: at most three bytes, one below 128 and two below 16,384
pub record NumberRead (s : List ℕ) (at v next : ℕ) : Type 0 where
  pub rises : at < next
  pub within : next ≤ length s
  pub one : v < 128 → next ≤ at + 1
  pub two : v < 16384 → next ≤ at + 2
  pub three : next ≤ at + 3
  pub again : (t : List ℕ) → SameTo s t next → number_at t at ≡ Ok (v, next)

number_read : (s : List ℕ) (at v next : ℕ) → number_at s at ≡ Ok (v, next) → NumberRead s at v next
number_read s at v next e =
    let a = missed (leb (length s) at) _ _ _ (sym (number_is s at) ∙ e) err_ok in
    by (ltb (get_or s at 0) 128) refl (leb-false (length s) at a.0) a.1
  where
    by : (x : Bool) → ltb (get_or s at 0) 128 ≡ x → at < length s
        → pick x (Ok (get_or s at 0, at + 1)) (second_at s at (get_or s at 0 - 128)) ≡ Ok (v, next) → NumberRead s at v next
    by true h l c =
        let n : at + 1 ≡ next = ok_second c in
        record {
          rises = omega arith;
          within = omega arith;
          one = λ q. omega arith;
          two = λ q. omega arith;
          three = omega arith;
          again = λ t w. number_is t at ∙ rw (lt-leb (length t) at (omega (arith, w.long)), ← w.byte at (omega arith), h) c;
        }
    by false h l c =
        let r = second_reach s at (get_or s at 0 - 128) v next c in
        record {
          rises = omega (arith, r.rises);
          within = r.within;
          one = λ q. absurd (omega (arith, r.long));
          two = r.two;
          three = r.ends;
          again = λ t w.
              number_is t at
              ∙ rw (lt-leb (length t) at (omega (arith, w.long, r.rises)), ← w.byte at (omega (arith, r.rises)), h) (r.again t w);
        }

-- ---- the same of a number that is held to a range
pub record GotRead (s : List ℕ) (at : ℕ) (r : Range) (fault : Refusal) (v next : ℕ) : Type 0 where
  pub in_range : (r.low ≤ v) × (v < r.limit)
  pub read : NumberRead s at v next
  pub again : (t : List ℕ) → SameTo s t next → got_at t at r fault ≡ Ok (v, next)

pub got_read : (s : List ℕ) (at : ℕ) (r : Range) (fault : Refusal) (v next : ℕ) → got_at s at r fault ≡ Ok (v, next) → GotRead s at r fault v next
unfolding got_at held
got_read s at r fault v next e =
    let n = by (number_at s at) refl e in
    let h : holds r v ≡ true = let_through s at r fault v next e in
    record { in_range = holds_at r.low r.limit v h; read = n; again = λ t w. rw (n.again t w, h) }
  where
    by : (x : Number) → number_at s at ≡ x → held x (length s) at r fault ≡ Ok (v, next) → NumberRead s at v next
    by (Err numberFault.Ends) q c = absurd (err_ok c)
    by (Err numberFault.Malformed) q c = absurd (err_ok c)
    by (Ok (a, b)) q c =
        let p = took (holds r a) _ _ _ c err_ok in
        let x : a ≡ v = ok_first p.1 in
        let y : b ≡ next = ok_second p.1 in
        number_read s at v next (rw (x, y) at q)
