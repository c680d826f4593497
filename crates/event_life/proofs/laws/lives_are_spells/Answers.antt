use Rattle.event_life.proofs.LivesLemmas.{track_of-spells}
use Rattle.event_life.proofs.laws.lives_are_spells.Goals as goal

pub returns : goal.returns
returns c = track_of-spells
