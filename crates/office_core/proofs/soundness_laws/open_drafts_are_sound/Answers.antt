-- Each draft is sound.
use Rattle.office_core.proofs.SoundFirst.{drafts_are}
use Rattle.office_core.proofs.soundness_laws.open_drafts_are_sound.Goals as goal

pub returns : goal.returns
returns c = drafts_are
