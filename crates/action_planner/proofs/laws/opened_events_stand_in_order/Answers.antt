use Rattle.action_planner.proofs.CasesOpened.{opened_hazards}
use Rattle.action_planner.proofs.laws.opened_events_stand_in_order.Goals as goal

pub returns : goal.returns
returns c = opened_hazards
