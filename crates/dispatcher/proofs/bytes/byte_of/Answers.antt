use mathlib.Core.Path.{◌∙◌, ap}
use Prim.Native.Nat.{ℕ}
use mathlib.Core.List.{List}
use lib.ListN.{get_or}
use Rattle.dispatcher.proofs.ByteLoops.{le_byte}
use Rattle.dispatcher.proofs.bytes.byte_of.Goals as goal

pub returns : goal.returns
returns c = ap (λ (xs : List ℕ). get_or xs c.args.k 0) c.to_le_bytes.ensures ∙ le_byte c.args.x c.args.k c.requires
