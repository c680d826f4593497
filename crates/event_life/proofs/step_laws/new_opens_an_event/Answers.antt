use Rattle.event_life.proofs.BoundsLemmas.{new_exactly}
use Rattle.event_life.proofs.step_laws.new_opens_an_event.Goals as goal

pub returns : goal.returns
returns c = new_exactly
