-- Laws of the definitions in specs/Keep.antt.
use Rattle.std.specs.Prelude.{◌≡◌, refl, List, ℕ, ◌+◌, ◌≤◌, ◌<◌, length, get_or, set, replicate}
use Rattle.std.proofs.Common.{◌∙◌, arith, length-set, get_or-set_same, get_or-set_other}
use Rattle.std.proofs.lemmas.List.{length-replicate}
use Rattle.vocabulary.proofs.StopsAndZeros.{zeros, zeros_set}
use Rattle.vocabulary.specs.Keep.{SamePrefix, Row}

pub kept_self : (xs : List ℕ) (i : ℕ) → SamePrefix xs xs i
kept_self xs i = record { long = refl; below = λ j l. refl }

pub kept_less : (xs ys : List ℕ) (i k : ℕ) → k ≤ i → SamePrefix xs ys i → SamePrefix xs ys k
kept_less xs ys i k h p = record { long = p.long; below = λ j l. p.below j (omega arith) }

pub kept_on : (xs ys zs : List ℕ) (i k : ℕ) → i ≤ k → SamePrefix xs ys i → SamePrefix ys zs k → SamePrefix xs zs i
kept_on xs ys zs i k h p q = record { long = q.long ∙ p.long; below = λ j l. q.below j (omega arith) ∙ p.below j l }

-- what is written at i, or beyond it, leaves the entries below i
pub kept_set : (xs ys : List ℕ) (i x : ℕ) → SamePrefix (set xs i x) ys (i + 1) → SamePrefix xs ys i
kept_set xs ys i x p =
    record { long = p.long ∙ length-set xs i x; below = λ j l. p.below j (omega arith) ∙ get_or-set_other xs i j x 0 (λ e. omega arith) }

pub kept_at : (xs ys : List ℕ) (i x : ℕ) → i < length xs → SamePrefix (set xs i x) ys (i + 1) → get_or ys i 0 ≡ x
kept_at xs ys i x l p = p.below i (omega arith) ∙ get_or-set_same xs i x 0 l

pub row_none : (size : ℕ) → Row (replicate size 0) size 0
row_none size = record { long = length-replicate size 0; beyond = λ j l. zeros size j }

pub row_on_lem : (xs : List ℕ) (size i x : ℕ) → Row xs size i → Row (set xs i x) size (i + 1)
row_on_lem xs size i x r =
    record { long = length-set xs i x ∙ r.long; beyond = zeros_set xs i i (i + 1) x r.beyond (omega arith) (omega arith) }
