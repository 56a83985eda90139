-- A set in lent tables: its numbers, and the tables of its attributes, headings and pairs.
use Rattle.kinds.specs.declared.Counts.{Counts}
use Rattle.kinds.specs.declared.Tables.{Tables}
use Rattle.kinds.specs.Build.{lent_set}
use Rattle.kinds.proofs.SoundFacts.{Sound, sound_facts}
use Rattle.kinds.specs.SoundByTests.{CountsFound}

-- the set keeps rule 10, and its numbers are its own
abbrev pub Numbered : Counts → Tables → Type 0
Numbered f t = CountsFound (lent_set f t) f

pub numbered_sound : (f : Counts) (t : Tables) → Numbered f t → Sound (lent_set f t)
numbered_sound f t n = sound_facts (lent_set f t) n.is_sound
