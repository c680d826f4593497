use Rattle.event_life.proofs.BoundsLemmas.{ended_opens, ended_anew}
use Rattle.event_life.proofs.step_laws.ended_lives_are_opened_anew.Goals as goal

pub returns-clause-opening : goal.returns-clause-opening
returns-clause-opening c = ended_opens

pub returns-clause-anew : goal.returns-clause-anew
returns-clause-anew c = ended_anew
