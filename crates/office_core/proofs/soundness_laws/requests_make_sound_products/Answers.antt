-- By the rules that are not broken.
use Rattle.office_core.proofs.SoundRequests.{making_is}
use Rattle.office_core.proofs.soundness_laws.requests_make_sound_products.Goals as goal

pub returns : goal.returns
returns c = making_is
