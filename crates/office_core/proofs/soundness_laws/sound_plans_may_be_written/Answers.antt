-- Each line, text and zone may be said.
use Rattle.office_core.proofs.SoundPlans.{may_be_written}
use Rattle.office_core.proofs.soundness_laws.sound_plans_may_be_written.Goals as goal

pub returns : goal.returns
returns c = may_be_written
