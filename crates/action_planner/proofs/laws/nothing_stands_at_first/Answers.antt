use Rattle.action_planner.proofs.Standing.{at_first}
use Rattle.action_planner.proofs.laws.nothing_stands_at_first.Goals as goal

pub returns : goal.returns
returns c = at_first
