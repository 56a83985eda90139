use Rattle.std.proofs.Common.{◌≡◌, ◌≤◌, length}
use Rattle.console.specs.Lines.{put_first}
use Rattle.console.proofs.Line.put.Given as goal

-- The words so far stand in the line.
abbrev pub invariant-loop-x : goal.invariant-loop-x
invariant-loop-x l = (l.x-index ≤ length l.words) × (l.line ≡ put_first l.fn.self l.words l.x-index)
