use native.Mathlib.Omega.{arith}
use Rattle.place.proofs.PlaceLaws.{rest_none, rest_all}
use Rattle.place.proofs.rest_at.Goals as goal

pub returns-then-file-at : goal.returns-then-file-at
returns-then-file-at c = rest_none c.args.file.now c.args.at (omega arith)

pub returns : goal.returns
returns c = rest_all c.args.file.now c.args.at
