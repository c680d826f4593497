use Rattle.event_life.proofs.BoundsLemmas.{never_twice}
use Rattle.event_life.proofs.step_laws.steps_are_never_twice.Goals as goal

pub returns : goal.returns
returns c = never_twice
