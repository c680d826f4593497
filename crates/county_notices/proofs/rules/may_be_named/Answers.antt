-- Both tests decide it.
use Rattle.action_planner.specs.Conditions.{AreZones}
use Rattle.action_planner.specs.Fitting.{is_valid_zone_list}
use Rattle.action_planner.proofs.FittingLemmas.{zones_Decide}
use Rattle.county_notices.proofs.RuleLemmas.{same_test}
use Rattle.county_notices.proofs.rules.may_be_named.Goals as goal

pub returns : goal.returns
returns c = same_test c.is_valid_zone_list.result (is_valid_zone_list c.args.zones.now) (AreZones c.args.zones.now) c.is_valid_zone_list.ensures (zones_Decide c.args.zones.now)
