use Rattle.std.proofs.Common.{rules}
use Rattle.reader.specs.Files.{on_end}
use Rattle.reader.proofs.end_file.Goals as goal

pub returns-in_err-read_slots : goal.returns-in_err-read_slots
unfolding on_end
returns-in_err-read_slots c = search rules

pub returns : goal.returns
unfolding on_end
returns c = search rules
