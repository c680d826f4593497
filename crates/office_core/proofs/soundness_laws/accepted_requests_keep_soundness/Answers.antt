-- Part by part.
use Rattle.office_core.proofs.SoundSteps.{keeps_sound}
use Rattle.office_core.proofs.soundness_laws.accepted_requests_keep_soundness.Goals as goal

pub returns : goal.returns
returns c = keeps_sound
