use Rattle.event_life.proofs.BoundsLemmas.{exp_exactly}
use Rattle.event_life.proofs.step_laws.exp_comes_within_half_an_hour_of_the_end.Goals as goal

pub returns : goal.returns
returns c = exp_exactly
