-- The test decides it.
use Rattle.action_planner.proofs.FittingLemmas.{told, zones_Decide}
use Rattle.action_planner.proofs.fitting.is_valid_zone_list.Goals as goal

pub returns : goal.returns
returns c = told c.is_zone_list.result _ _ c.is_zone_list.ensures (zones_Decide c.args.zones.now)
