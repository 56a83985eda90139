-- Tests are Bools: that a test passes is the proposition `f x ≡ true`. Here is how tests meet propositions.
use Rattle.std.specs.Prelude.{Bool, true, false, ℕ}

-- The first where the test passes, else the second.
abbrev pub pick : {A : Type 0} → Bool → A → A → A
pick true a b = a
pick false a b = b

-- 1 where the test passes
abbrev pub bit : Bool → ℕ
bit true = 1
bit false = 0
