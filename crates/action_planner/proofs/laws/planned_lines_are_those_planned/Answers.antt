use Rattle.action_planner.proofs.Cases.{planned_exactly}
use Rattle.action_planner.proofs.laws.planned_lines_are_those_planned.Goals as goal

pub returns : goal.returns
returns c = planned_exactly
