use Rattle.std.proofs.Common.{rules}
use Rattle.numbers.specs.Numbers.{and_then}
use Rattle.heads.specs.Heads.{opening_of}
use Rattle.heads.proofs.read_opening.Goals as goal

pub returns-in_err-e : goal.returns-in_err-e
unfolding opening_of and_then
returns-in_err-e c = search rules

pub returns-in_err-n : goal.returns-in_err-n
unfolding opening_of and_then
returns-in_err-n c = search rules

pub returns-in_err-m : goal.returns-in_err-m
unfolding opening_of and_then
returns-in_err-m c = search rules

pub returns : goal.returns
unfolding opening_of and_then
returns c = search rules
