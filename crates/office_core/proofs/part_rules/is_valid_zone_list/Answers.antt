-- The planner's test and this one decide the same.
use Rattle.action_planner.proofs.FittingLemmas.{zones_Decide}
use Rattle.office_core.proofs.PartLemmas.{one_test}
use Rattle.office_core.proofs.part_rules.is_valid_zone_list.Goals as goal

pub returns : goal.returns
returns c = one_test c.is_valid_zone_list.result _ _ c.is_valid_zone_list.ensures (zones_Decide c.args.zones.now)
