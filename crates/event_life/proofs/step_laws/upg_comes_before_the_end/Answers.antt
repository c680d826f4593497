use Rattle.event_life.proofs.BoundsLemmas.{upg_exactly}
use Rattle.event_life.proofs.step_laws.upg_comes_before_the_end.Goals as goal

pub returns : goal.returns
returns c = upg_exactly
