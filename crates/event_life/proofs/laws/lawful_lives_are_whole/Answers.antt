use Rattle.event_life.proofs.WholeLemmas.{lawful_exactly}
use Rattle.event_life.proofs.laws.lawful_lives_are_whole.Goals as goal

pub returns : goal.returns
returns c = lawful_exactly
