use Rattle.action_planner.proofs.Lawful.{planned_distinct}
use Rattle.action_planner.proofs.laws.planned_lines_are_distinct.Goals as goal

pub returns : goal.returns
returns c = planned_distinct
