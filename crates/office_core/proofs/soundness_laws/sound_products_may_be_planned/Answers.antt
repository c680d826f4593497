-- By what stands at the last minute.
use Rattle.office_core.proofs.SoundPlans.{may_be_planned}
use Rattle.office_core.proofs.soundness_laws.sound_products_may_be_planned.Goals as goal

pub returns : goal.returns
returns c = may_be_planned
