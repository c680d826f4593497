use Rattle.event_life.proofs.GapsLemmas.{gapless_exactly}
use Rattle.event_life.proofs.laws.gapless_without_gaps.Goals as goal

pub returns : goal.returns
returns c = gapless_exactly
