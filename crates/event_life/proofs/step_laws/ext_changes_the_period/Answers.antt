use Rattle.event_life.proofs.BoundsLemmas.{ext_exactly}
use Rattle.event_life.proofs.step_laws.ext_changes_the_period.Goals as goal

pub returns : goal.returns
returns c = ext_exactly
