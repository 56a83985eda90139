use borrow.Author.Tests.{lt-ltb, le-ltb}
use Rattle.vocabulary.proofs.Test.{and_true, and_false}
use Rattle.dispatcher.specs.Steps.{after_of}
use Rattle.dispatcher.proofs.State.after.Goals as goal

pub returns-then-next-h : goal.returns-then-next-h
unfolding after_of
returns-then-next-h c = let s = c.args.self in rw (lt-ltb _ _ c.if-next-h.true, and_true s.first)

pub returns : goal.returns
unfolding after_of
returns c = let s = c.args.self in rw (le-ltb _ _ c.if-next-h.false, and_false s.first)
