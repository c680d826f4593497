use Rattle.action_planner.proofs.Standing.{later}
use Rattle.action_planner.proofs.laws.standing_conditions_persist.Goals as goal

pub returns : goal.returns
returns c = later
