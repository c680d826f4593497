-- Nothing stands yet.
use Rattle.office_core.proofs.SoundFirst.{begins}
use Rattle.office_core.proofs.soundness_laws.offices_begin_sound.Goals as goal

pub returns : goal.returns
returns c = begins
