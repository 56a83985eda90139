-- The second and the third byte of a number, after what the bytes before them gave.
use Rattle.std.specs.Prelude.{◌≡◌, refl, List, ℕ, ◌+◌, ◌*◌, ◌-◌, leb, ltb, eqb, length, get_or, Ok, Err}
use Rattle.vocabulary.specs.Test.{pick}
use Rattle.numbers.specs.declared.NumberFault.TheVariants as numberFault
use Rattle.numbers.specs.Numbers.{Number, number_at}

unfoldable pub third_at : List ℕ → ℕ → ℕ → Number
third_at s at low =
    pick (leb (length s) (at + 2)) (Err numberFault.Ends)
    (pick (eqb (get_or s (at + 2) 0) 0) (Err numberFault.Malformed)
    (pick (ltb (get_or s (at + 2) 0) 128) (Ok (low + 16384 * get_or s (at + 2) 0, at + 3)) (Err numberFault.Malformed)))

unfoldable pub second_at : List ℕ → ℕ → ℕ → Number
second_at s at low =
    pick (leb (length s) (at + 1)) (Err numberFault.Ends)
    (pick (eqb (get_or s (at + 1) 0) 0) (Err numberFault.Malformed)
    (pick (ltb (get_or s (at + 1) 0) 128) (Ok (low + 128 * get_or s (at + 1) 0, at + 2))
    (third_at s at (low + 128 * (get_or s (at + 1) 0 - 128)))))

pub number_is : (s : List ℕ) (at : ℕ) → number_at s at
    ≡ pick (leb (length s) at) (Err numberFault.Ends) (pick (ltb (get_or s at 0) 128) (Ok (get_or s at 0, at + 1)) (second_at s at (get_or s at 0 - 128)))
unfolding number_at second_at third_at
number_is s at = refl
