-- What the parts of the writer promise: bytes written from a place on, and the place after them.
use Rattle.std.specs.Prelude.{◌≡◌, refl, List, [], ◌∷◌, ◌++◌, ℕ, suc, ◌+◌, length, set, map}
use Rattle.std.proofs.Common.{sym, ap, ◌∙◌, arith, length-append}
use Rattle.std.proofs.lemmas.List.Edits.{sets}
use Rattle.std.proofs.Math.Seq.{length-sets}
use Rattle.writer.specs.Format.{bytes_in}
use Rattle.writer.specs.Lent.{Gives}

pub record Wrote (old : List ℕ) (at : ℕ) (bytes new : List ℕ) (next : ℕ) : Type 0 where
  pub ends : next ≡ at + length bytes
  pub is : new ≡ sets old at bytes

-- the numbers that a conversion gives, one after another
abbrev pub NumbersWrote : {T : Type 0} (converts : T → ℕ → Type 0) (numbers : List T) (old : List ℕ) (at : ℕ) (new : List ℕ) (next : ℕ) → Type 0
NumbersWrote {T} converts numbers old at new next = (value : T → ℕ) → Gives converts value → Wrote old at (bytes_in (map value numbers)) new next

sets_both : (s : List ℕ) (at : ℕ) (xs ys : List ℕ) → sets s at (xs ++ ys) ≡ sets (sets s at xs) (at + length xs) ys
sets_both s at [] ys = let z : at + 0 ≡ at = omega arith in rw z
sets_both s at (x ∷ xs) ys = let z : suc at + length xs ≡ at + suc (length xs) = omega arith in rw (← z) (sets_both (set s at x) (suc at) xs ys)

pub wrote_none : (out : List ℕ) (at : ℕ) → Wrote out at [] out at
wrote_none out at = record { ends = omega arith; is = refl }

pub wrote_both : {a b c : List ℕ} {at p q : ℕ} {xs ys : List ℕ} → Wrote a at xs b p → Wrote b p ys c q → Wrote a at (xs ++ ys) c q
wrote_both {a} {b} {c} {at} {p} {q} {xs} {ys} v w =
    record {
      ends = omega (arith, w.ends, v.ends, length-append xs ys);
      is = w.is ∙ rw (v.is, v.ends) (sym (sets_both a at xs ys));
    }

-- the buffer keeps its length
pub wrote_long : {a b : List ℕ} {at p : ℕ} {xs : List ℕ} → Wrote a at xs b p → length b ≡ length a
wrote_long {a} {at = at} {xs = xs} w = ap length w.is ∙ length-sets a at xs
