-- One zone more.
use Rattle.row_index.specs.Verdicts.{said_at}
use Rattle.row_index.proofs.Spelling.{flat_next}
use Rattle.row_index.proofs.verdicts.add_part.Goals as goal

pub loop-zone-preserved : goal.loop-zone-preserved
loop-zone-preserved c =
    flat_next (said_at c.args.part.now.lines) c.args.part.now.zones.now c.loop-zone.zone-index c.zone-item.result c.args.out.now.items c.loop-zone.out.items c.push_lines_of_part.new.out.items
    c.loop-zone-test.true c.zone-item.is c.in_ok-push_lines_of_part.ensures c.loop-zone.invariant
