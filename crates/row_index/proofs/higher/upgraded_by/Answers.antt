-- One line more.
use Rattle.row_index.specs.Seating.{upgrades}
use Rattle.row_index.proofs.Seated.{tells_next}
use Rattle.row_index.proofs.higher.upgraded_by.Goals as goal

pub loop-line-preserved : goal.loop-line-preserved
loop-line-preserved c = tells_next upgrades c.loop-line.seats.keys c.add_seat.new.seats.keys c.args.lines.now c.loop-line.line-index c.line-item.result c.is_upgrade.result c.loop-line-test.true c.line-item.is c.is_upgrade.ensures c.in_ok-add_seat.ensures c.loop-line.invariant
