-- A line without a breach opens where the event has no row that goes on; routine lines are on number 0000.
use Rattle.action_planner.proofs.Lawful.{planned_opens, routine_rowless}
use Rattle.action_planner.proofs.laws.planned_lines_open_where_no_row_stands.Goals as goal

pub returns-clause-opened : goal.returns-clause-opened
returns-clause-opened c = planned_opens

pub returns-clause-routine : goal.returns-clause-routine
returns-clause-routine c = routine_rowless
