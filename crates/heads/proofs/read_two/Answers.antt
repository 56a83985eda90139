use Rattle.std.proofs.Common.{rules}
use Rattle.numbers.specs.Numbers.{and_then}
use Rattle.heads.specs.Tables.{two_at}
use Rattle.heads.proofs.read_two.Goals as goal

pub returns-in_err-x : goal.returns-in_err-x
unfolding two_at and_then
returns-in_err-x c = search rules

pub returns-in_err-y : goal.returns-in_err-y
unfolding two_at and_then
returns-in_err-y c = search rules

pub returns : goal.returns
unfolding two_at and_then
returns c = search rules
