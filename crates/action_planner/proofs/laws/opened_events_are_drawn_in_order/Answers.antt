use Rattle.action_planner.proofs.Standing.{drawn_in_order}
use Rattle.action_planner.proofs.laws.opened_events_are_drawn_in_order.Goals as goal

pub returns : goal.returns
returns c = drawn_in_order
