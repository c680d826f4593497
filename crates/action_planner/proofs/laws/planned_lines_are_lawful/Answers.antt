use Rattle.action_planner.proofs.Lawful.{planned_lawful}
use Rattle.action_planner.proofs.laws.planned_lines_are_lawful.Goals as goal

pub returns : goal.returns
returns c = planned_lawful
