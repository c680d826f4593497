-- One line more.
use Rattle.hazard_types.specs.Places.{by_place}
use Rattle.hazard_types.proofs.OrderLaws.{by_place_total, by_place_ties}
use Rattle.row_index.specs.Gathering.{zone_said}
use Rattle.row_index.specs.Seating.{upgrades}
use Rattle.row_index.proofs.Gathering.{tells-next}
use Rattle.row_index.proofs.live.upgraded_zones.Goals as goal

pub loop-line-preserved : goal.loop-line-preserved
loop-line-preserved c =
    tells-next by_place by_place_total by_place_ties upgrades zone_said c.loop-line.zones.keys c.add_counted.new.keys.keys c.args.lines.now c.loop-line.line-index c.line-item.result c.is_upgrade.result
    c.loop-line-test.true c.line-item.is c.is_upgrade.ensures c.in_ok-add_counted.ensures c.loop-line.invariant
