use Rattle.kinds.specs.SoundByTests.{sound_by_cycle}
use Rattle.kinds.proofs.is_sound.Goals as goal

pub returns : goal.returns
returns c = sound_by_cycle _ c.sound_cycle.ensures c.is_some.ensures
