-- The sign of a slot in a chart.
use Rattle.std.specs.Prelude.{ℕ, ◌+◌, ◌-◌, eqb, ltb}
use Rattle.vocabulary.specs.Test.{pick}

-- '.' for an idle slot, then '1' to '9', 'a' to 'z', 'A' to 'Z', '#', '@' and '%', in ASCII
unfoldable pub sign_of : ℕ → ℕ
sign_of v =
    pick (eqb v 0) 46
    (pick (ltb v 10) (48 + v)
    (pick (ltb v 36) (97 + (v - 10))
    (pick (ltb v 62) (65 + (v - 36))
    (pick (eqb v 62) 35
    (pick (eqb v 63) 64 37)))))
