use Rattle.event_life.proofs.OnceLemmas.{opened_once}
use Rattle.event_life.proofs.laws.events_open_once.Goals as goal

pub returns : goal.returns
returns c = opened_once
