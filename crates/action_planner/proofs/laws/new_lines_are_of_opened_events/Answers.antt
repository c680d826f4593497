use Rattle.action_planner.proofs.LawfulOpenings.{new_lines, new_events}
use Rattle.action_planner.proofs.laws.new_lines_are_of_opened_events.Goals as goal

pub returns-clause-lines : goal.returns-clause-lines
returns-clause-lines c = new_lines

pub returns-clause-events : goal.returns-clause-events
returns-clause-events c = new_events
