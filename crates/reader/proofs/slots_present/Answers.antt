use native.Mathlib.Omega.{arith}
use Rattle.reader.proofs.slots_present.Goals as goal

pub returns-then-length-start : goal.returns-then-length-start
returns-then-length-start c = omega arith

pub returns-then-k-rest : goal.returns-then-k-rest
returns-then-k-rest c = omega arith

pub returns : goal.returns
returns c = omega arith
