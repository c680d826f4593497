-- The test decides it.
use Rattle.action_planner.proofs.FittingLemmas.{hold_Decides, told}
use Rattle.action_planner.proofs.fitting.may_hold.Goals as goal

pub returns : goal.returns
returns c = told c.holds.result _ _ c.holds.ensures (hold_Decides c.args.category c.args.intent.now)
