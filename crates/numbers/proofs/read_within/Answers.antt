use Rattle.numbers.specs.Numbers.{got_at, held}
use Rattle.numbers.proofs.read_within.Goals as goal

pub returns-then-is_within : goal.returns-then-is_within
unfolding got_at held
returns-then-is_within c = simp (← c.read_number.ensures, c.in-Ok.is, ← c.is_within.ensures, c.if-is_within.true)

pub returns-in-Err-Ends : goal.returns-in-Err-Ends
unfolding got_at held
returns-in-Err-Ends c = simp (← c.read_number.ensures, c.in-Err-Ends.is, c.in-Err-Ends.field-0-is)

pub returns-in-Err-Malformed : goal.returns-in-Err-Malformed
unfolding got_at held
returns-in-Err-Malformed c = simp (← c.read_number.ensures, c.in-Err-Malformed.is, c.in-Err-Malformed.field-0-is)

pub returns-else-is_within : goal.returns-else-is_within
unfolding got_at held
returns-else-is_within c = simp (← c.read_number.ensures, c.in-Ok.is, ← c.is_within.ensures, c.if-is_within.false)
