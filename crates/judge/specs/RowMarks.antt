-- Rule 20 with one look at each slot: a word of the tasks seen in the row so far.
use Rattle.std.specs.Prelude.{◌≡◌, Bool, ◌&&◌, not, List, ℕ, ◌-◌, ◌*◌, ◌^◌, ◌%◌, ◌≤◌, eqb, get_or, length}
use Rattle.std.specs.Int.Bits.{bit_or}
use Rattle.vocabulary.specs.Bits.{has}

-- A plan whose slots' tasks fit a word.
pub record Worded (slots : List ℕ) (m h : ℕ) : Type 0 where
  pub long : length slots ≡ h * m
  pub few : (e : ℕ) → get_or slots e 0 ≤ 64
  pub short : h * m ≤ 48000

-- Slot value v is marked in x.
unfoldable pub marked : ℕ → ℕ → Bool
marked x v = not (eqb v 0) && has x (v - 1)

-- r is x with slot value v marked.
pub record Added (x v r : ℕ) : Type 0 where
  pub idle : v ≡ 0 → r ≡ x
  pub task : (v ≡ 0 → ⊥) → r ≡ bit_or x (1 * 2 ^ (v - 1) % 2 ^ 64)
