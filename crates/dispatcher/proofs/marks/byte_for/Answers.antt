use borrow.Author.Tests.{eq-eqb, ne_eqb}
use Rattle.dispatcher.specs.Steps.{byte_of, asleep}
use Rattle.dispatcher.proofs.marks.byte_for.Goals as goal

pub returns-then-v-eq0 : goal.returns-then-v-eq0
unfolding byte_of
returns-then-v-eq0 c = rw (eq-eqb _ _ c.if-v-eq0.true)

pub returns-then-is_asleep : goal.returns-then-is_asleep
unfolding byte_of asleep
returns-then-is_asleep c = rw (ne_eqb _ _ c.if-v-eq0.false, ← c.from-i.ensures, ← c.is_asleep.ensures, c.if-is_asleep.true)

pub returns-then-is_marked : goal.returns-then-is_marked
unfolding byte_of asleep
returns-then-is_marked c = rw (ne_eqb _ _ c.if-v-eq0.false, ← c.from-i.ensures, ← c.is_asleep.ensures, c.if-is_asleep.false, ← c.is_marked.ensures, c.if-is_marked.true)

pub returns : goal.returns
unfolding byte_of asleep
returns c = rw (ne_eqb _ _ c.if-v-eq0.false, ← c.from-i.ensures, ← c.is_asleep.ensures, c.if-is_asleep.false, ← c.is_marked.ensures, c.if-is_marked.false)
