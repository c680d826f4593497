use Rattle.action_planner.proofs.Standing.{plans_keep}
use Rattle.action_planner.proofs.laws.plans_keep_what_stands.Goals as goal

pub returns : goal.returns
returns c = plans_keep
