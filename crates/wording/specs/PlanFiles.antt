-- A plan file in a program's buffer.
use Rattle.std.specs.Prelude.{◌≡◌, List, ℕ, take, Ok}
use Rattle.io.specs.Counts.{IsPrefixLen}
use Rattle.reader.specs.declared.Loaded.{Loaded}
use Rattle.reader.specs.Files.{read_of}

-- The first n bytes are a plan file, and the reader answers its set and the place of its first slot.
abbrev pub IsPlanIn : ℕ → Loaded → List ℕ → Type 0
IsPlanIn n plan buf = IsPrefixLen n buf × (read_of (take n buf) ≡ Ok plan)
