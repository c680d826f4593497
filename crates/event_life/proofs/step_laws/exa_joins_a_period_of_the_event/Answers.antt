use Rattle.event_life.proofs.BoundsLemmas.{exa_exactly}
use Rattle.event_life.proofs.step_laws.exa_joins_a_period_of_the_event.Goals as goal

pub returns : goal.returns
returns c = exa_exactly
