use Rattle.event_life.proofs.OnceLemmas.{events_opened_by-up}
use Rattle.event_life.proofs.OpenedLemmas.{opened_alike, opened_members, opened_lawful}
use Rattle.event_life.proofs.laws.opened_events_are_of_the_lines.Goals as goal

pub returns-clause-alike : goal.returns-clause-alike
returns-clause-alike c = opened_alike

pub returns-clause-order : goal.returns-clause-order
returns-clause-order c = events_opened_by-up

pub returns-clause-members : goal.returns-clause-members
returns-clause-members c = opened_members

pub returns-clause-lawful : goal.returns-clause-lawful
returns-clause-lawful c = opened_lawful
