-- Rule R12.2: the state as 21 bytes, four for the tick, one for the first cycle, eight for the done marks and eight for the ran marks.
use Rattle.std.specs.Prelude.{Bool, List, [], ◌∷◌, ◌++◌, ℕ, zero, suc, ◌+◌, ◌*◌, ◌/◌, ◌%◌, eqb, leb, get_or}
use Rattle.vocabulary.specs.Test.{bit}
use Rattle.dispatcher.specs.declared.State.{State}

-- a number in n bytes, lowest byte first
unfoldable pub bytes : ℕ → ℕ → List ℕ
bytes zero x = []
bytes (suc n) x = x % 256 ∷ bytes n (x / 256)

-- the number that n bytes from a place make
unfoldable pub number : List ℕ → ℕ → ℕ → ℕ
number s at zero = 0
number s at (suc n) = get_or s at 0 + 256 * number s (at + 1) n

unfoldable pub bytes_of : State → List ℕ
bytes_of s = bytes 4 s.tick ++ (bytes 1 (bit s.first) ++ (bytes 8 s.done ++ bytes 8 s.ran))

-- Rule R12.3: the first-cycle byte is neither 0 nor 1
unfoldable pub unclear : List ℕ → Bool
unclear s = leb 2 (get_or s 4 0)

unfoldable pub state_of : List ℕ → State
state_of s = record { tick = number s 0 4; first = eqb (get_or s 4 0) 1; done = number s 5 8; ran = number s 13 8 }
