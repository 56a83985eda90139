use Rattle.console.specs.Lines.{Continues}
use Rattle.console.proofs.Line.put_right.Given as goal

-- The line goes on from the one that the function was given.
abbrev pub invariant-loop : goal.invariant-loop
invariant-loop l = Continues l.fn.self l.line
