-- The first rule of a chain that is broken.
use Rattle.std.specs.Prelude.{◌≡◌, Bool, not, ◌&&◌, ◌||◌, ◌↔◌, ℕ, zero, suc, ◌<◌}
use Rattle.std.proofs.Math.Bool.{true, false}
use mathlib.Core.List.{List, [], ◌∷◌, map}
use Rattle.std.proofs.Math.Dec.{eqb}
use Rattle.vocabulary.specs.Test.{pick}

-- A rule: its number, whether it is broken, and what is answered where it is the first that is.
pub record Rule (A : Type 0) : Type 0 where
  pub number : ℕ
  pub broken : Bool
  pub answer : A

abbrev pub rule : {A : Type 0} → ℕ → Bool → A → Rule A
rule n b a = record { number = n; broken = b; answer = a }

-- the answer of the first rule that is broken, or d where none is
unfoldable pub first_of : {A : Type 0} → List (Rule A) → A → A
first_of [] d = d
first_of {A} (r ∷ rs) d = let x : A = first_of rs d in pick r.broken r.answer x

-- what is left of a chain from rule n on
unfoldable pub from : {A : Type 0} → ℕ → List (Rule A) → List (Rule A)
from n [] = []
from n (r ∷ rs) = pick (eqb r.number n) (r ∷ rs) (from n rs)

-- ---- the first broken rule by its rank
-- whether the chain ends at rank k, by a rule that is broken or since there is none
unfoldable pub ends_at : {A : Type 0} → List (Rule A) → ℕ → Bool
ends_at [] k = true
ends_at (r ∷ rs) zero = r.broken
ends_at (r ∷ rs) (suc k) = ends_at rs k

unfoldable pub answer_at : {A : Type 0} → List (Rule A) → A → ℕ → A
answer_at [] d k = d
answer_at (r ∷ rs) d zero = r.answer
answer_at (r ∷ rs) d (suc k) = answer_at rs d k

unfoldable pub rank_of : {A : Type 0} → List (Rule A) → ℕ
rank_of [] = 0
rank_of (r ∷ rs) = let k : ℕ = suc (rank_of rs) in pick r.broken 0 k

-- the rule of rank k is broken, and none before it is
pub record First {A : Type 0} (rs : List (Rule A)) (k : ℕ) : Type 0 where
  pub broken : ends_at rs k ≡ true
  pub before : (j : ℕ) → j < k → ends_at rs j ≡ false

-- ---- the first broken rule by its number
-- m stands before n among the numbers; before one that is not there all of them do
unfoldable pub earlier : List ℕ → ℕ → ℕ → Bool
earlier [] m n = false
earlier (k ∷ ks) m n = not (eqb k n) && (eqb k m || earlier ks m n)

abbrev pub numbers_of : {A : Type 0} → List (Rule A) → List ℕ
numbers_of rs = map (λ r. r.number) rs

-- each of a list
abbrev pub Each : {A : Type 0} → (A → Type 0) → List A → Type 0
Each P [] = Unit {0}
Each P (x ∷ xs) = P x × Each P xs

infixr 5 ◌also◌
abbrev pub ◌also◌ : {A B : Type 0} → A → B → A × B
a also b = (a, b)

-- What is claimed of rule n where it is kept, and of an answer: the rule's test tells the one, and its answer has the other and bears its number.
pub record Told {A : Type 0} (Keeps : ℕ → Type 0) (Breach : A → Type 0) (number_of : A → ℕ) (r : Rule A) : Type 0 where
  pub kept : (r.broken ≡ false) ↔ Keeps r.number
  pub breach : r.broken ≡ true → Breach r.answer
  pub number : number_of r.answer ≡ r.number

-- ---- claims: what each rule of a chain says where it is kept, in the chain's order
pub record Claim : Type 1 where
  pub number : ℕ
  pub Kept : Type 0

abbrev pub claim : ℕ → Type 0 → Claim
claim n K = record { number = n; Kept = K }

abbrev pub pick_type : Bool → Type 0 → Type 0 → Type 0
pick_type true K L = K
pick_type false K L = L

-- what rule n says
unfoldable pub KeptBy : List Claim → ℕ → Type 0
KeptBy [] n = Unit {0}
KeptBy (c ∷ cs) n = pick_type (eqb c.number n) c.Kept (KeptBy cs n)

-- all that they say
abbrev pub AllKept : List Claim → Type 0
AllKept [] = Unit {0}
AllKept (c ∷ cs) = c.Kept × AllKept cs
