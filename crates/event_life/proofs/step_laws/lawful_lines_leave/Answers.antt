use Rattle.event_life.proofs.BoundsLemmas.{opens_leaves, goes_on_leaves, ends_leaves}
use Rattle.event_life.proofs.step_laws.lawful_lines_leave.Goals as goal

pub returns-clause-opened : goal.returns-clause-opened
returns-clause-opened c = opens_leaves

pub returns-clause-carried_on : goal.returns-clause-carried_on
returns-clause-carried_on c = goes_on_leaves

pub returns-clause-ended : goal.returns-clause-ended
returns-clause-ended c = ends_leaves
