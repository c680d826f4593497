use Rattle.event_life.proofs.BoundsLemmas.{can_exactly}
use Rattle.event_life.proofs.step_laws.can_comes_before_the_last_half_hour.Goals as goal

pub returns : goal.returns
returns c = can_exactly
