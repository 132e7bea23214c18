use Rattle.sign_core.proofs.laws.sound_law.Goals as goal
use Rattle.sign_core.proofs.law.SoundRecords.{sound_law}

pub returns : goal.returns
returns c = record { sound = sound_law }
