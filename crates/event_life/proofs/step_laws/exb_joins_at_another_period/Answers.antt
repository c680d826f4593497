use Rattle.event_life.proofs.BoundsLemmas.{exb_exactly}
use Rattle.event_life.proofs.step_laws.exb_joins_at_another_period.Goals as goal

pub returns : goal.returns
returns c = exb_exactly
